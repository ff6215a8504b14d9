-- What comes to the columns of the tables of decisions.
use Rattle.std.proofs.Common.{Bool, ◌≡◌, ◌∙◌, refl, sym, ap, subst, ℕ, zero, suc, ◌+◌, ◌<◌, ◌≤◌, List, [], ◌∷◌, ◌++◌, length, get_or, map, drop, append_assoc, append-nil, true, ◌||◌, Option, None, Some, option_map, inl, inr, arith, Vec, Box}
use Rattle.std.specs.Prelude.{nat_eq}
use Rattle.std.specs.Arc.{arc_str_bytes}
use Rattle.std.specs.List.{All, list_any, slice_get, zip}
use Rattle.std.specs.declared.alloc.Global.{Global}
use Rattle.std.proofs.lemmas.Bool.Decides.{eqb_tells}
use Rattle.std.proofs.lemmas.List.{at_drop_more, drop_all, get_or-map}
use Rattle.std.proofs.lemmas.Option.{same_Some}
use Rattle.feel_value.specs.Datum.{Datum}
use Rattle.feel_value.specs.Found.{value_of, ◌>>=◌, each}
use Rattle.feel_value.specs.declared.feel.Outcome.{Outcome}
use Rattle.feel_value.specs.declared.feel.Outcome.TheVariants.{Is, Limit}
use Rattle.feel_text.specs.Expr.{Expr}
use Rattle.feel_text.specs.Meaning.{Bindings}
use Rattle.dmn_table.specs.Hits.{values_of}
use Rattle.dmn_table.specs.Table.{Table}
use Rattle.dmn_form.specs.Model.{Boxed, expression, table, list, context, context_with, member, entry, Decision, Model, Name, Service}
use Rattle.dmn_graph.specs.Reach.{Each, IsInOrder}
use Rattle.dmn_logic.proofs.Boxes.{Named, logic_view-Context, logic_view-ContextWith}
use Rattle.dmn_logic.specs.Boxed.{boxed}
use Rattle.dmn_logic.specs.LogicView.{entries_view, logic_view, members_view}
use Rattle.dmn_logic.specs.declared.logic.Logic.{Logic, Expression, Table as TableIn, List as ListIn, Context, ContextWith}
use Rattle.dmn_service.proofs.Decisions.{fits}
use Rattle.dmn_service.proofs.Result.{found_stands}
use Rattle.dmn_service.specs.Decision.{bindings_to, decision_named, outcome_of, parameters_of}
use Rattle.dmn_service.specs.Places.{name_at, needs_at}
use Rattle.dmn_service.specs.Plan.{HasPlacesWithin, IsAmong, IsPlanOf}
use Rattle.dmn_service.specs.Run.{Found, filled_by, given_at, logic_at, needed_at, nothing_found, values_in}
use Rattle.dmn_service.specs.declared.plan.Item.{Item}
use Rattle.dmn_service.specs.declared.plan.ServicePlan.{ServicePlan}
use Rattle.dmn_ranges.specs.Boxes.{TellsBox}
use Rattle.dmn_ranges.specs.Asking.{AllIn}
use Rattle.dmn_ranges.specs.Columns.{ComeIn, ComeTo, AreInputsIn, AddsEntries, AddsMembers, AddsTables, IsWider, AreWider, TellTables, TellsEachPlace, TellsItemColumns, TellsPlaceColumns, TellsColumnsUnder, FitsIf, decision_tables, entry_tables, logic_tables, member_tables, tables_under, with_entries, with_entry}
use Rattle.dmn_ranges.specs.Ranges.{Fits, Scope, covers, lies_in, plain}
use Rattle.dmn_ranges.specs.Services.{Tells, Told, needs_limit, needs_scope}
use Rattle.dmn_ranges.specs.Tables.{column_outcomes}
use Rattle.dmn_ranges.specs.declared.columns.ToldTables.{ToldTables}
use Rattle.dmn_ranges.specs.declared.outcomes.Outcomes.{Outcomes}
use Rattle.dmn_ranges.proofs.BoxForms.{expression_in, list_in, table_in}
use Rattle.dmn_ranges.proofs.SoundAsking.{pushed_at}
use Rattle.dmn_ranges.proofs.SoundBoxes.{fits_more}
use Rattle.dmn_ranges.proofs.SoundDecisions.{run, run_found}
use Rattle.dmn_ranges.proofs.SoundRules.{InputsTold, inputs_told}
use Rattle.dmn_ranges.proofs.SoundServices.{NeedsTold, fits_alone, needs_told}

-- ---- a table

pub of_inputs : (es : List Expr) (xs : Scope) (v : Vec Outcomes Global) → v.items ≡ column_outcomes xs es → (m : Option Bindings) → FitsIf xs m → AreInputsIn v.items es m
of_inputs es xs v columns None fits = tt
of_inputs es xs v columns (Some m) fits = λ values is.
    subst (λ o. InputsTold v.items o) is (subst (λ cs. InputsTold cs (values_of m es)) (sym columns) (inputs_told es xs m fits))

-- ---- some tables, and others behind them

tell_append : (cs bs : List (Vec Outcomes Global)) (ps qs : List (Table × Option Bindings)) → TellTables cs ps → TellTables bs qs → TellTables (cs ++ bs) (ps ++ qs)
tell_append [] bs [] qs h k = k
tell_append [] bs (p ∷ ps) qs h k = absurd h
tell_append (a ∷ cs) bs [] qs h k = absurd h
tell_append (a ∷ cs) bs (p ∷ ps) qs h k = (h.0, tell_append cs bs ps qs h.1 k)

behind : (old cur new ms ns : List (Vec Outcomes Global)) → cur ≡ old ++ ms → new ≡ cur ++ ns → new ≡ old ++ (ms ++ ns)
behind old cur new ms ns first second = second ∙ ap (λ xs. xs ++ ns) first ∙ append_assoc old ms ns

nothing_behind : (old : List (Vec Outcomes Global)) → old ≡ old ++ []
nothing_behind old = sym (append-nil old)

-- ---- the forms of the code's logic

adds_as : (xs : Scope) (b c : Boxed Expr Table) (old new : List (Vec Outcomes Global)) → b ≡ c → AddsTables xs c old new → AddsTables xs b old new
adds_as xs b c old new same adds = subst (λ d. AddsTables xs d old new) (sym same) adds

pub of_expression : (xs : Scope) (l : Logic) (e : Expr) (old : List (Vec Outcomes Global)) → l ≡ Expression e → AddsTables xs (logic_view l) old old
of_expression xs l e old form =
    adds_as xs (logic_view l) (expression e) old old (ap logic_view form ∙ expression_in e) (record { more = []; is = nothing_behind old; tell = λ m f. tt })

pub of_table : (xs : Scope) (l : Logic) (t : Table) (v : Vec Outcomes Global) (old new : List (Vec Outcomes Global)) → l ≡ TableIn t → new ≡ old ++ v ∷ [] → v.items ≡ column_outcomes xs t.inputs → AddsTables xs (logic_view l) old new
of_table xs l t v old new form is columns =
    adds_as xs (logic_view l) (table t) old new (ap logic_view form ∙ table_in t) (record { more = v ∷ []; is = is; tell = λ m f. (of_inputs t.inputs xs v columns m f, tt) })

pub of_list : (xs : Scope) (l : Logic) (v : Vec Logic Global) (old new : List (Vec Outcomes Global)) → l ≡ ListIn v → AddsMembers xs (members_view v.items) old new → AddsTables xs (logic_view l) old new
of_list xs l v old new form adds =
    adds_as xs (logic_view l) (list (members_view v.items)) old new (ap logic_view form ∙ list_in v) (record { more = adds.more; is = adds.is; tell = λ m f. adds.tell m f })

pub of_context : (xs ys : Scope) (l : Logic) (v : Vec Named Global) (old new : List (Vec Outcomes Global)) → l ≡ Context v → AddsEntries xs (entries_view v.items) old new ys → AddsTables xs (logic_view l) old new
of_context xs ys l v old new form adds =
    adds_as xs (logic_view l) (context (entries_view v.items)) old new (ap logic_view form ∙ logic_view-Context v) (record { more = adds.more; is = adds.is; tell = λ m f. adds.tell m f })

pub of_result : (xs ys : Scope) (l : Logic) (v : Vec Named Global) (b : Box Logic Global) (old cur new : List (Vec Outcomes Global)) → l ≡ ContextWith v b → AddsEntries xs (entries_view v.items) old cur ys
    → AddsTables ys (logic_view b.value) cur new → AddsTables xs (logic_view l) old new
of_result xs ys l v b old cur new form entries last =
    let es = entries_view v.items in
    adds_as xs (logic_view l) (context_with es (logic_view b.value)) old new (ap logic_view form ∙ logic_view-ContextWith v b) (record {
      more = entries.more ++ last.more;
      is = behind old cur new entries.more last.more entries.is last.is;
      tell = λ m f. tell_append entries.more last.more (entry_tables es m) (tables_under (logic_view b.value) (with_entries es m)) (entries.tell m f) (last.tell (with_entries es m) (entries.fit m f));
    })

-- ---- members, one at a time

members_at : (xs : List Logic) (i : ℕ) (x : Logic) → x ≡ get_or xs i x → i < length xs → members_view (drop i xs) ≡ member (logic_view x) (members_view (drop (i + 1) xs))
members_at xs i x e h = at_drop_more members_view xs i x h ∙ ap (λ (y : Logic). member (logic_view y) (members_view (drop (i + 1) xs))) (sym e)

-- what is told of all members, wherever it is told of those from one on
abbrev pub MembersFrom : Scope → List Logic → ℕ → List (Vec Outcomes Global) → List (Vec Outcomes Global) → Type 0
MembersFrom xs bs i old cur = (new : List (Vec Outcomes Global)) → AddsMembers xs (members_view (drop i bs)) cur new → AddsMembers xs (members_view bs) old new

pub members_begin : (xs : Scope) (bs : List Logic) (old : List (Vec Outcomes Global)) → MembersFrom xs bs 0 old old
members_begin xs bs old new rest = rest

pub members_turn : (xs : Scope) (bs : List Logic) (i : ℕ) (x : Logic) (old cur next : List (Vec Outcomes Global)) → MembersFrom xs bs i old cur → x ≡ get_or bs i x → i < length bs → AddsTables xs (logic_view x) cur next
    → MembersFrom xs bs (i + 1) old next
members_turn xs bs i x old cur next before here inside one new rest =
    let left = members_view (drop (i + 1) bs) in
    before new (subst (λ ms. AddsMembers xs ms cur new) (sym (members_at bs i x here inside)) (record {
      more = one.more ++ rest.more;
      is = behind cur next new one.more rest.more one.is rest.is;
      tell = λ m f. tell_append one.more rest.more (tables_under (logic_view x) m) (member_tables left m) (one.tell m f) (rest.tell m f);
    }))

pub members_done : (xs : Scope) (bs : List Logic) (i : ℕ) (old cur : List (Vec Outcomes Global)) → MembersFrom xs bs i old cur → length bs ≤ i → AddsMembers xs (members_view bs) old cur
members_done xs bs i old cur before done =
    before cur (subst (λ (ys : List Logic). AddsMembers xs (members_view ys) cur cur) (sym (drop_all i bs done)) (record { more = []; is = nothing_behind cur; tell = λ m f. tt }))

-- ---- entries, one at a time

entries_at : (xs : List Named) (i : ℕ) (x : Named) → x ≡ get_or xs i x → i < length xs → entries_view (drop i xs) ≡ entry (arc_str_bytes x.0) (logic_view x.1) (entries_view (drop (i + 1) xs))
entries_at xs i x e h = at_drop_more entries_view xs i x h ∙ ap (λ (y : Named). entry (arc_str_bytes y.0) (logic_view y.1) (entries_view (drop (i + 1) xs))) (sym e)

entry_fits : (xs : Scope) (n : Name) (o : Outcomes) (k : Bindings) (p : Outcome) → Fits xs k → covers o p ≡ true → FitsIf (xs ++ (n, plain o.range) ∷ []) (value_of p >>= λ d. Some (k ++ (n, d) ∷ []))
entry_fits xs n o k (Is d) fits told = fits_more xs k n o.range d fits told
entry_fits xs n o k Limit fits told = tt

with_entry_fits : (xs : Scope) (n : Name) (b : Boxed Expr Table) (o : Outcomes) → TellsBox xs b o → (m : Option Bindings) → FitsIf xs m → FitsIf (xs ++ (n, plain o.range) ∷ []) (with_entry n b m)
with_entry_fits xs n b o told None fits = tt
with_entry_fits xs n b o told (Some k) fits = entry_fits xs n o k (boxed b k) fits (told k fits)

abbrev pub EntriesFrom : Scope → List Named → ℕ → List (Vec Outcomes Global) → List (Vec Outcomes Global) → Scope → Type 0
EntriesFrom xs es i old cur ys = (new : List (Vec Outcomes Global)) (zs : Scope) → AddsEntries ys (entries_view (drop i es)) cur new zs → AddsEntries xs (entries_view es) old new zs

pub entries_begin : (xs ys : Scope) (es : List Named) (old : List (Vec Outcomes Global)) → ys ≡ xs → EntriesFrom xs es 0 old old ys
entries_begin xs ys es old same = subst (λ s. EntriesFrom xs es 0 old old s) (sym same) (λ new zs rest. rest)

pub entries_turn : (xs ys : Scope) (es : List Named) (i : ℕ) (x : Named) (old cur next : List (Vec Outcomes Global)) (more : Scope) (o : Outcomes) → EntriesFrom xs es i old cur ys → x ≡ get_or es i x → i < length es
    → AddsTables ys (logic_view x.1) cur next → TellsBox ys (logic_view x.1) o → more ≡ ys ++ (arc_str_bytes x.0, plain o.range) ∷ [] → EntriesFrom xs es (i + 1) old next more
entries_turn xs ys es i x old cur next more o before here inside one told bound =
    let n : Name = arc_str_bytes x.0 in
    let b = logic_view x.1 in
    let left = entries_view (drop (i + 1) es) in
    subst (λ s. EntriesFrom xs es (i + 1) old next s) (sym bound)
    (λ new zs rest.
    before new zs (subst (λ e. AddsEntries ys e cur new zs) (sym (entries_at es i x here inside)) (record {
      more = one.more ++ rest.more;
      is = behind cur next new one.more rest.more one.is rest.is;
      tell = λ m f. tell_append one.more rest.more (tables_under b m) (entry_tables left (with_entry n b m)) (one.tell m f) (rest.tell (with_entry n b m) (with_entry_fits ys n b o told m f));
      fit = λ m f. rest.fit (with_entry n b m) (with_entry_fits ys n b o told m f);
    })))

pub entries_done : (xs ys : Scope) (es : List Named) (i : ℕ) (old cur : List (Vec Outcomes Global)) → EntriesFrom xs es i old cur ys → length es ≤ i → AddsEntries xs (entries_view es) old cur ys
entries_done xs ys es i old cur before done =
    before cur ys (subst (λ (rest : List Named). AddsEntries ys (entries_view rest) cur cur ys) (sym (drop_all i es done)) (record { more = []; is = nothing_behind cur; tell = λ m f. tt; fit = λ m f. f }))

-- ---- an item

needs_fit : (l : Bool) (xs : Scope) (m : Option Bindings) → NeedsTold l xs m → FitsIf xs m
needs_fit l xs None told = tt
needs_fit l xs (Some m) told = fits_alone xs m told

pub no_logic : (items : List Item) (told : Told) (item : Item) (columns : List (Vec Outcomes Global)) → option_map logic_view item.logic ≡ None → columns ≡ [] → TellsItemColumns items told item columns
no_logic items told item columns is none =
    subst (λ cs. TellsItemColumns items told item cs) (sym none)
    (subst (λ l. TellsColumnsUnder told [] (name_at items) item.needs.items l) (sym is) (λ found known. tt))

pub of_item : (items : List Item) (told : Told) (item : Item) (b : Boxed Expr Table) (xs : Scope) (old new : List (Vec Outcomes Global)) → xs ≡ needs_scope (name_at items) told item.needs.items
    → option_map logic_view item.logic ≡ Some b → old ≡ [] → AddsTables xs b old new → TellsItemColumns items told item new
of_item items told item b xs old new names is none adds =
    let qs : List ℕ = item.needs.items in
    let same : new ≡ adds.more = adds.is ∙ ap (λ cs. cs ++ adds.more) none in
    subst (λ cs. TellsItemColumns items told item cs) (sym same)
    (subst (λ l. TellsColumnsUnder told adds.more (name_at items) qs l) (sym is)
    (λ found known.
    let m : Option Bindings = needed_at (name_at items) found qs in
    adds.tell m (subst (λ s. FitsIf s m) (sym names) (needs_fit (needs_limit told.0 qs) (needs_scope (name_at items) told qs) m (needs_told (name_at items) told found qs known)))))

-- ---- the places of an order

at_place : (items : List Item) (q : ℕ) (x : Item) (told : Told) (columns : List (Vec Outcomes Global)) → q < length items → x ≡ get_or items q x → TellsItemColumns items told x columns → TellsPlaceColumns items told q columns
at_place items q x told columns inside here asks =
    let needs : needs_at items q ≡ x.needs.items = get_or-map (λ (y : Item). y.needs.items) items q x _ inside ∙ ap (λ (y : Item). y.needs.items) (sym here) in
    let logic : logic_at items q ≡ option_map logic_view x.logic = get_or-map (λ (y : Item). option_map logic_view y.logic) items q x None inside ∙ ap (λ (y : Item). option_map logic_view y.logic) (sym here) in
    let P : List ℕ → Type 0 = λ qs. TellsColumnsUnder told columns (name_at items) qs (logic_at items q) in
    let Q : Option (Boxed Expr Table) → Type 0 = λ l. TellsColumnsUnder told columns (name_at items) x.needs.items l in
    subst P (sym needs) (subst Q (sym logic) asks)

pub none_yet : (items : List Item) (told : Told) (columns : List ToldTables) → columns ≡ [] → TellsEachPlace items told columns
none_yet items told columns none k c there = absurd (nothing k c (subst (λ xs. slice_get xs k ≡ Some c) none there))
  where
    nothing : (i : ℕ) (b : ToldTables) → slice_get [] i ≡ Some b → ⊥
    nothing i b e = cc

pub one_more : (items : List Item) (told : Told) (old new : List ToldTables) (x : Item) (a : ToldTables) → TellsEachPlace items told old → new ≡ old ++ a ∷ []
    → a.place < length items → x ≡ get_or items a.place x → TellsItemColumns items told x a.tables.items → TellsEachPlace items told new
one_more items told old new x a before more inside is tells k c there =
    elim (pushed_at old a c k (ap (λ xs. slice_get xs k) (sym more) ∙ there)) [
      | inl left ↦ before k c left
      | inr last ↦ subst (λ (b : ToldTables). TellsPlaceColumns items told b.place b.tables.items) last.1 (at_place items a.place x told a.tables.items inside is tells)
    ]

map_append : {X Y : Type 0} (f : X → Y) (xs ys : List X) → map f (xs ++ ys) ≡ map f xs ++ map f ys
map_append f [] ys = refl
map_append f (x ∷ xs) ys = ap (λ zs. f x ∷ zs) (map_append f xs ys)

pub place_more : (order : List ℕ) (old new : List ToldTables) (a : ToldTables) (i : ℕ) → order ≡ map (λ (c : ToldTables). c.place) old ++ drop i order → new ≡ old ++ a ∷ [] → i < length order → a.place ≡ get_or order i 0
    → order ≡ map (λ (c : ToldTables). c.place) new ++ drop (i + 1) order
place_more order old new a i so_far more inside is =
    let place : ToldTables → ℕ = λ c. c.place in
    so_far ∙ at_drop_more (λ qs. map place old ++ qs) order i 0 inside
    ∙ ap (λ q. map place old ++ (q ∷ drop (i + 1) order)) (sym is)
    ∙ sym (append_assoc (map place old) (a.place ∷ []) (drop (i + 1) order))
    ∙ ap (λ qs. qs ++ drop (i + 1) order) (sym (ap (map place) more ∙ map_append place old (a ∷ [])))

pub places_done : (order : List ℕ) (columns : List ToldTables) (i : ℕ) → order ≡ map (λ (c : ToldTables). c.place) columns ++ drop i order → length order ≤ i → map (λ (c : ToldTables). c.place) columns ≡ order
places_done order columns i so_far done =
    let place : ToldTables → ℕ = λ c. c.place in
    sym (append-nil (map place columns)) ∙ ap (λ qs. map place columns ++ qs) (sym (drop_all i order done)) ∙ sym so_far

-- ---- the outcomes of names

among : (P : ℕ → Type 0) (qs : List ℕ) (q : ℕ) → Each P qs → IsAmong qs q → P q
among P [] q h a = absurd (cc)
among P (p ∷ ps) q h a = elim (eqb_tells q p) [
  | inl e ↦ subst P (sym e.1) h.0
  | inr e ↦ among P ps q h.1 (sym (ap (λ b. b || list_any (nat_eq q) ps) e.0) ∙ a)
]

all_among : (P : ℕ → Type 0) (qs ps : List ℕ) → Each P qs → Each (IsAmong qs) ps → Each P ps
all_among P qs [] h a = tt
all_among P qs (p ∷ ps) h a = (among P qs p h a.0, all_among P qs ps h a.1)

-- what holds of the places before an order and of its own holds of all that these need
needs_along : (needs : ℕ → List ℕ) (P : ℕ → Type 0) (seen qs : List ℕ) → IsInOrder nat_eq needs seen qs → Each P seen → Each P qs → Each (λ q. Each P (needs q)) qs
needs_along needs P seen [] order before here = tt
needs_along needs P seen (q ∷ qs) order before here = (all_among P seen (needs q) before order.0, needs_along needs P (q ∷ seen) qs order.1 (here.0, before) here.1)

bindings_found : (outcome : Name → Outcome) (name : ℕ → Name) (found : Found) (qs : List ℕ) → Each (λ q. found q ≡ value_of (outcome (name q))) qs → bindings_to outcome (map name qs) ≡ needed_at name found qs
bindings_found outcome name found [] h = refl
bindings_found outcome name found (q ∷ qs) h =
    ap (λ (o : Option Datum). (o >>= λ v. Some (name q, v)) >>= λ b. bindings_to outcome (map name qs) >>= λ bs. Some (b ∷ bs)) (sym h.0)
    ∙ ap (λ (r : Option Bindings). (found q >>= λ v. Some (name q, v)) >>= λ b. r >>= λ bs. Some (b ∷ bs)) (bindings_found outcome name found qs h.1)

each_at_index : (P : ℕ → Type 0) (qs : List ℕ) (k q : ℕ) → Each P qs → slice_get qs k ≡ Some q → P q
each_at_index P [] k q h at = absurd (cc)
each_at_index P (p ∷ ps) zero q h at = subst P (same_Some p q at) h.0
each_at_index P (p ∷ ps) (suc k) q h at = each_at_index P ps k q h.1 at

inside_each : (n : ℕ) (qs : List ℕ) → All (λ p. p < n) qs → Each (λ p. p < n) qs
inside_each n [] h = tt
inside_each n (p ∷ ps) h = (h 0 p (omega arith), inside_each n ps (λ i d l. h (suc i) d (omega (arith, l))))

column_in : (os : List Outcomes) (vs : List Datum) → AllIn os vs → (k : ℕ) (o : Outcomes) (v : Datum) → slice_get os k ≡ Some o → slice_get vs k ≡ Some v → lies_in o.range v ≡ true
column_in [] [] all k o v here there = absurd (cc)
column_in [] (w ∷ vs) all k o v here there = absurd all
column_in (p ∷ os) [] all k o v here there = absurd all
column_in (p ∷ os) (w ∷ vs) all zero o v here there = subst (λ (q : Outcomes). lies_in q.range v ≡ true) (same_Some p o here) (subst (λ d. lies_in p.range d ≡ true) (same_Some w v there) all.0)
column_in (p ∷ os) (w ∷ vs) all (suc k) o v here there = column_in os vs all.1 k o v here there

come_in : (os : List Outcomes) (es : List Expr) (m : Option Bindings) → AreInputsIn os es m → ComeIn os es m
come_in os es None told = tt
come_in os es (Some m) told = λ values is k o v here there. column_in os values (told values is) k o v here there

come_to : (cs : List (Vec Outcomes Global)) (ps : List (Table × Option Bindings)) → TellTables cs ps → ComeTo cs ps
come_to [] [] told k c p here there = absurd (cc)
come_to [] (q ∷ ps) told k c p here there = absurd told
come_to (d ∷ cs) [] told k c p here there = absurd told
come_to (d ∷ cs) (q ∷ ps) told zero c p here there =
    subst (λ (e : Vec Outcomes Global). ComeIn e.items p.0.inputs p.1) (same_Some d c here)
    (subst (λ (r : Table × Option Bindings). ComeIn d.items r.0.inputs r.1) (same_Some q p there) (come_in d.items q.0.inputs q.1 told.0))
come_to (d ∷ cs) (q ∷ ps) told (suc k) c p here there = come_to cs ps told.1 k c p here there

tell_decision : (items : List Item) (q : ℕ) (columns : List (Vec Outcomes Global)) (outcome : Name → Outcome) (m : Option Bindings) (logic : Option (Boxed Expr Table)) → bindings_to outcome (map (name_at items) (needs_at items q)) ≡ m
    → TellTables columns (logic_tables logic m) → ComeTo columns (decision_tables outcome (option_map (λ b. record { name = name_at items q; needs = map (name_at items) (needs_at items q); logic = b }) logic))
tell_decision items q columns outcome m None same asks = come_to columns [] asks
tell_decision items q columns outcome m (Some b) same asks = come_to columns (tables_under b (bindings_to outcome (map (name_at items) (needs_at items q)))) (subst (λ n. TellTables columns (tables_under b n)) (sym same) asks)

placed_among : (order : List ℕ) (columns : List ToldTables) (k : ℕ) (c : ToldTables) → map (λ (d : ToldTables). d.place) columns ≡ order → slice_get columns k ≡ Some c → slice_get order k ≡ Some c.place
placed_among order columns k c places there = ap (λ qs. slice_get qs k) (sym places) ∙ among_mapped columns k there
  where
    among_mapped : (cs : List ToldTables) (i : ℕ) → slice_get cs i ≡ Some c → slice_get (map (λ (d : ToldTables). d.place) cs) i ≡ Some c.place
    among_mapped [] i e = cc
    among_mapped (d ∷ cs) zero e = ap (λ (x : ToldTables). Some x.place) (same_Some d c e)
    among_mapped (d ∷ cs) (suc i) e = among_mapped cs i e

pub columns_told : (told : Told) (columns : List ToldTables) (m : Model Expr Table) (s : Service) (items : List Item) (plan : ServicePlan) (values : List Datum) → IsPlanOf m s items plan → HasPlacesWithin items plan
    → length values ≡ length plan.parameters.items → Tells told (filled_by items plan.order.items (given_at plan.parameters.items values nothing_found)) → TellsEachPlace items told columns
    → map (λ (d : ToldTables). d.place) columns ≡ plan.order.items
    → (k : ℕ) (c : ToldTables) → slice_get columns k ≡ Some c → ComeTo c.tables.items (decision_tables (outcome_of m (zip (parameters_of s) values)) (decision_named m.decisions (name_at items c.place)))
columns_told told columns m s items plan values is inside same tells each places k c there =
    let q : ℕ = c.place in
    let at : slice_get plan.order.items k ≡ Some q = placed_among plan.order.items columns k c places there in
    let outcome : Name → Outcome = outcome_of m (zip (parameters_of s) values) in
    let ran = run_found items plan values inside in
    let found : Found = values_in (run items plan values) in
    let P : ℕ → Type 0 = λ p. found p ≡ value_of (outcome (name_at items p)) in
    let stands = found_stands m s items plan values (run items plan values) is inside same ran in
    let known : Tells told found = subst (λ (f : Found). Tells told f) (sym ran) tells in
    let needs : Each P (needs_at items q) = each_at_index (λ p. Each P (needs_at items p)) plan.order.items k q (needs_along (needs_at items) P plan.parameters.items plan.order.items is.behind stands.0 stands.1) at in
    let within : q < length items = each_at_index (λ p. p < length items) plan.order.items k q (inside_each (length items) plan.order.items inside.order) at in
    subst (λ (d : Option (Decision Expr Table)). ComeTo c.tables.items (decision_tables outcome d)) (sym (fits m items is.names is.decisions q within))
    (tell_decision items q c.tables.items outcome (needed_at (name_at items) found (needs_at items q)) (logic_at items q) (bindings_found outcome (name_at items) found (needs_at items q) needs) (each k c there found known))

-- ---- what either of two has

pub wider_none : (old new : List Outcomes) → new ≡ [] → IsWider old new
wider_none old new none k o there = absurd (nothing k o (subst (λ xs. slice_get xs k ≡ Some o) none there))
  where
    nothing : (i : ℕ) (p : Outcomes) → slice_get [] i ≡ Some p → ⊥
    nothing i p e = cc

pub wider_more : (old new next : List Outcomes) (o p : Outcomes) → IsWider old new → next ≡ new ++ o ∷ [] → slice_get old (length new) ≡ Some p → ((v : Datum) → lies_in p.range v ≡ true → lies_in o.range v ≡ true) → IsWider old next
wider_more old new next o p before more here wider k q there =
    elim (pushed_at new o q k (ap (λ xs. slice_get xs k) (sym more) ∙ there)) [
      | inl left ↦ before k q left
      | inr last ↦ subst (λ (r : Outcomes). (w : Outcomes) × (slice_get old k ≡ Some w) × ((v : Datum) → lies_in w.range v ≡ true → lies_in r.range v ≡ true)) last.1 (p, ap (slice_get old) last.0 ∙ here, wider)
    ]

pub widers_none : (old new : List (Vec Outcomes Global)) → new ≡ [] → AreWider old new
widers_none old new none k c there = absurd (nothing k c (subst (λ xs. slice_get xs k ≡ Some c) none there))
  where
    nothing : (i : ℕ) (p : Vec Outcomes Global) → slice_get [] i ≡ Some p → ⊥
    nothing i p e = cc

pub widers_more : (old new next : List (Vec Outcomes Global)) (c d : Vec Outcomes Global) → AreWider old new → next ≡ new ++ c ∷ [] → slice_get old (length new) ≡ Some d → IsWider d.items c.items → AreWider old next
widers_more old new next c d before more here wider k e there =
    elim (pushed_at new c e k (ap (λ xs. slice_get xs k) (sym more) ∙ there)) [
      | inl left ↦ before k e left
      | inr last ↦ subst (λ (r : Vec Outcomes Global). (w : Vec Outcomes Global) × (slice_get old k ≡ Some w) × IsWider w.items r.items) last.1 (d, ap (slice_get old) last.0 ∙ here, wider)
    ]

wider_in : (old new : List Outcomes) (es : List Expr) (m : Option Bindings) → IsWider old new → ComeIn old es m → ComeIn new es m
wider_in old new es None wider come = tt
wider_in old new es (Some m) wider come = λ values is k o v here there. (let w = wider k o here in w.2 v (come values is k w.0 v w.1 there))

pub wider_to : (old new : List (Vec Outcomes Global)) (ts : List (Table × Option Bindings)) → AreWider old new → ComeTo old ts → ComeTo new ts
wider_to old new ts wider come k c t here there = let w = wider k c here in wider_in w.0.items c.items t.0.inputs t.1 w.2 (come k w.0 t w.1 there)
