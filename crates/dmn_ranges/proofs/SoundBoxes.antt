-- What is told of a boxed expression holds of its outcome.
use Rattle.std.proofs.Common.{◌≡◌, ◌∙◌, refl, sym, ap, subst, ℕ, ◌+◌, ◌<◌, ◌≤◌, List, [], ◌∷◌, ◌++◌, length, get_or, drop, append_assoc, append-nil, Bool, true, false, ◌||◌, Option, None, Some, unwrap_or, if◌then◌else◌}
use Rattle.std.specs.Prelude.{bytes_eq}
use Rattle.std.specs.Arc.{arc_str_bytes}
use Rattle.std.proofs.lemmas.List.{drop_all}
use Rattle.feel_value.specs.Datum as datum
use Rattle.feel_value.specs.Datum.{Datum, null, items_of, entries_of}
use Rattle.feel_value.specs.Found.{value_of, ◌>>=◌, outcome_from}
use Rattle.feel_value.specs.Limits.{is_value, items_nodes, items_depth, items_in_range, items_distinct}
use Rattle.feel_value.specs.Outcome.{held}
use Rattle.feel_value.specs.declared.feel.Outcome.{Outcome}
use Rattle.feel_value.specs.declared.feel.Outcome.TheVariants.{Is, Limit}
use Rattle.feel_text.specs.Expr.{Expr}
use Rattle.feel_text.specs.Meaning.{Bindings, bound, first_some}
use Rattle.dmn_table.specs.Table.{Table}
use Rattle.dmn_form.specs.Model.{Boxed, list, context, context_with, Entries}
use Rattle.dmn_logic.proofs.Boxes.{Named, members_step, entries_step}
use Rattle.dmn_logic.specs.Boxed.{boxed, member_values, entry_values}
use Rattle.dmn_logic.specs.LogicView.{logic_view, members_view, entries_view}
use Rattle.dmn_logic.specs.declared.logic.Logic.{Logic}
use Rattle.dmn_ranges.specs.Ranges.{Extent, Scope, Fits, lies_in, lies_within, covers, null_alone, named_or, extent_named, plain}
use Rattle.dmn_ranges.specs.Steps.{limited, listed, list_of, no_parts, with_part}
use Rattle.dmn_ranges.specs.Sizes.{no_size}
use Rattle.dmn_ranges.specs.Tables.{some_context}
use Rattle.dmn_ranges.specs.Boxes.{TellsBox, EntriesTold, TellsEntries}
use Rattle.dmn_ranges.specs.declared.outcomes.Outcomes.{Outcomes}
use Rattle.dmn_ranges.specs.declared.parts.Parts.{Parts}
use Rattle.dmn_ranges.specs.declared.range.Range.{Range}
use Rattle.dmn_ranges.proofs.Forms.{limited_covers}
use Rattle.dmn_ranges.proofs.Formed.{PartsTold, part_more}
use Rattle.dmn_ranges.proofs.Sizes.{list_covers, none_behind, whole_fit}
use Rattle.dmn_ranges.proofs.Joins.{or_left, or_right}
use Rattle.dmn_ranges.proofs.SoundMembers.{plain_within}
use Rattle.dmn_ranges.proofs.SoundRules.{context_if}

-- ---- one name more

named_more : (r : Extent) (xs : Scope) (n : List ℕ) (s : Extent) (name : List ℕ) → named_or r (xs ++ (n, s) ∷ []) name ≡ (if bytes_eq name n then s else named_or r xs name)
named_more r [] n s name = refl
named_more r (x ∷ xs) n s name = named_more (if bytes_eq name x.0 then x.1 else r) xs n s name

some_first : (t : Bool) (d : Datum) (o p : Option Datum) → first_some (if t then Some d else o) p ≡ (if t then Some d else first_some o p)
some_first true d o p = refl
some_first false d o p = refl

bound_more : (m : Bindings) (n : List ℕ) (d : Datum) (name : List ℕ) → bound name (m ++ (n, d) ∷ []) ≡ (if bytes_eq name n then Some d else bound name m)
bound_more [] n d name = refl
bound_more (b ∷ m) n d name =
    ap (λ o. first_some o (if bytes_eq name b.0 then Some b.1 else None)) (bound_more m n d name)
    ∙ some_first (bytes_eq name n) d (bound name m) (if bytes_eq name b.0 then Some b.1 else None)

fits_by : (t : Bool) (r s : Extent) (d : Datum) (o : Option Datum) → lies_within s d ≡ true → lies_within r (unwrap_or o null) ≡ true → lies_within (if t then s else r) (unwrap_or (if t then Some d else o) null) ≡ true
fits_by true r s d o h k = h
fits_by false r s d o h k = k

fits_along : (r s : Extent) (o p : Option Datum) → r ≡ s → o ≡ p → lies_within r (unwrap_or o null) ≡ true → lies_within s (unwrap_or p null) ≡ true
fits_along r s o p e f h =
    let P : Extent → Type 0 = λ q. lies_within q (unwrap_or p null) ≡ true in
    let Q : Option Datum → Type 0 = λ q. lies_within r (unwrap_or q null) ≡ true in
    subst P e (subst Q f h)

pub fits_more : (xs : Scope) (m : Bindings) (n : List ℕ) (s : Range) (d : Datum) → Fits xs m → lies_in s d ≡ true → Fits (xs ++ (n, plain s) ∷ []) (m ++ (n, d) ∷ [])
fits_more xs m n s d fits h name =
    fits_along (if bytes_eq name n then plain s else extent_named xs name) (extent_named (xs ++ (n, plain s) ∷ []) name) (if bytes_eq name n then Some d else bound name m) (bound name (m ++ (n, d) ∷ []))
    (sym (named_more (plain null_alone) xs n (plain s) name)) (sym (bound_more m n d name))
    (fits_by (bytes_eq name n) (extent_named xs name) (plain s) d (bound name m) (plain_within s d h) (fits name))

fits_same : (xs : Scope) (m k : Bindings) → m ≡ k → Fits xs m → Fits xs k
fits_same xs m k e f = let P : Bindings → Type 0 = λ b. Fits xs b in subst P e f

-- ---- entries

entry_by : (k l : Bool) (ys : Scope) (m : Bindings) (n : List ℕ) (d : Datum) (rest : Option (List (List ℕ × Datum))) → EntriesTold l ys (m ++ (n, d) ∷ []) rest → EntriesTold (k || l) ys m (rest >>= λ ds. Some ((n, d) ∷ ds))
entry_by k l ys m n d None told = or_right k l told
entry_by k l ys m n d (Some ds) told = fits_same ys ((m ++ (n, d) ∷ []) ++ ds) (m ++ (n, d) ∷ ds) (append_assoc m ((n, d) ∷ []) ds) told

entry_more : (o : Outcomes) (l : Bool) (ys : Scope) (m : Bindings) (n : List ℕ) (p : Outcome) (rest : Datum → Option (List (List ℕ × Datum))) → covers o p ≡ true
    → ((d : Datum) → lies_in o.range d ≡ true → EntriesTold l ys (m ++ (n, d) ∷ []) (rest d)) → EntriesTold (o.limit || l) ys m (value_of p >>= λ d. rest d >>= λ ds. Some ((n, d) ∷ ds))
entry_more o l ys m n (Is d) rest h k = entry_by o.limit l ys m n d (rest d) (k d h)
entry_more o l ys m n Limit rest h k = or_left o.limit l h

with_entries : (l : Bool) (ys : Scope) (m : Bindings) (r : Outcomes) (f : Bindings → Outcome) (ds : Option (List (List ℕ × Datum))) → EntriesTold l ys m ds → ((k : Bindings) → Fits ys k → covers r (f k) ≡ true)
    → covers (limited l r) (outcome_from (λ es. f (m ++ es)) ds) ≡ true
with_entries l ys m r f None told k = or_left l r.limit told
with_entries l ys m r f (Some es) told k = limited_covers l r (f (m ++ es)) (k (m ++ es) told)

-- ---- boxed expressions

list_told : (p : Parts) (o : Option (List Datum)) → PartsTold no_size p o → covers (list_of p) (outcome_from (λ ds. held (datum.list (items_of ds))) o) ≡ true
list_told p None told = or_left p.limit (listed p.size).limit told
list_told p (Some ds) told =
    limited_covers p.limit (listed p.size) (held (datum.list (items_of ds)))
    (list_covers p.size (items_of ds) (whole_fit (items_in_range (items_of ds)) (items_distinct (items_of ds)) (items_nodes (items_of ds)) (items_depth (items_of ds)) p.size told))

context_told : (o : Option (List (List ℕ × Datum))) → covers some_context (outcome_from (λ ds. held (datum.context (entries_of ds))) o) ≡ true
context_told None = refl
context_told (Some ds) = context_if (entries_of ds) (is_value (datum.context (entries_of ds))) refl

pub some_context_told : (xs : Scope) (es : Entries Expr Table) → TellsBox xs (context es) some_context
some_context_told xs es m f = context_told (entry_values es m)

pub result_told : (xs ys : Scope) (es : Entries Expr Table) (b : Boxed Expr Table) (l : Bool) (o : Outcomes) → TellsEntries xs es l ys → TellsBox ys b o → TellsBox xs (context_with es b) (limited l o)
result_told xs ys es b l o entries told m f = with_entries l ys m o (boxed b) (entry_values es m) (entries m f) (λ k g. told k g)

-- ---- the members of the code, one at a time

-- what is told of all members, wherever it is told of those from a place on, behind parts so far
abbrev pub MembersFrom : Scope → List Logic → ℕ → Parts → Type 0
MembersFrom xs bs i p =
    (t : Parts) (m : Bindings) → Fits xs m → (p.limit ≡ true → t.limit ≡ true) → PartsTold p.size t (member_values (members_view (drop i bs)) m) → PartsTold no_size t (member_values (members_view bs) m)

pub members_begin : (xs : Scope) (bs : List Logic) → MembersFrom xs bs 0 no_parts
members_begin xs bs t m f keep told = told

pub members_turn : (xs : Scope) (bs : List Logic) (i : ℕ) (x : Logic) (p next : Parts) (o : Outcomes) → MembersFrom xs bs i p → x ≡ get_or bs i x → i < length bs → TellsBox xs (logic_view x) o → next ≡ with_part p o → MembersFrom xs bs (i + 1) next
members_turn xs bs i x p next o before here more told joined =
    subst (MembersFrom xs bs (i + 1)) (sym joined)
    (λ t m f keep rest.
    let P : Option (List Datum) → Type 0 = λ vs. PartsTold p.size t vs in
    before t m f (λ h. keep (or_left p.limit o.limit h))
    (subst P (sym (members_step m bs i x (boxed (logic_view x) m) here more refl)) (part_more p o (boxed (logic_view x) m) t (member_values (members_view (drop (i + 1) bs)) m) (told m f) keep rest)))

pub members_done : (xs : Scope) (bs : List Logic) (i : ℕ) (p : Parts) → MembersFrom xs bs i p → length bs ≤ i → TellsBox xs (list (members_view bs)) (list_of p)
members_done xs bs i p before done m f =
    let P : List Logic → Type 0 = λ ys. PartsTold p.size p (member_values (members_view ys) m) in
    list_told p (member_values (members_view bs) m) (before p m f (λ h. h) (subst P (sym (drop_all i bs done)) (none_behind p.size)))

-- ---- the entries of the code, one at a time

-- what is told of all entries, wherever it is told of those from a place on, under the names so far
abbrev pub EntriesFrom : Scope → List Named → ℕ → Bool → Scope → Type 0
EntriesFrom xs es i l ys =
    (k : Bool) (zs : Scope) → ((n : Bindings) → Fits ys n → EntriesTold k zs n (entry_values (entries_view (drop i es)) n)) → TellsEntries xs (entries_view es) (l || k) zs

pub entries_begin : (xs ys : Scope) (es : List Named) → ys ≡ xs → EntriesFrom xs es 0 false ys
entries_begin xs ys es same = subst (EntriesFrom xs es 0 false) (sym same) (λ k zs rest m f. rest m f)

or_behind : (a b c : Bool) → (a || (b || c)) ≡ ((a || b) || c)
or_behind true b c = refl
or_behind false b c = refl

or_none : (a : Bool) → (a || false) ≡ a
or_none true = refl
or_none false = refl

pub entries_turn : (xs : Scope) (es : List Named) (i : ℕ) (x : Named) (l k : Bool) (ys next : Scope) (o : Outcomes) → EntriesFrom xs es i l ys → x ≡ get_or es i x → i < length es → TellsBox ys (logic_view x.1) o
    → next ≡ ys ++ (arc_str_bytes x.0, plain o.range) ∷ [] → k ≡ (l || o.limit) → EntriesFrom xs es (i + 1) k next
entries_turn xs es i x l k ys next o before here more told bound joined =
    let n : List ℕ = arc_str_bytes x.0 in
    subst (λ b. EntriesFrom xs es (i + 1) b next) (sym joined)
    (subst (EntriesFrom xs es (i + 1) (l || o.limit)) (sym bound)
    (λ j zs rest.
    subst (λ b. TellsEntries xs (entries_view es) b zs) (or_behind l o.limit j)
    (before (o.limit || j) zs
    (λ q f.
    let P : Option (List (List ℕ × Datum)) → Type 0 = λ ds. EntriesTold (o.limit || j) zs q ds in
    subst P (sym (entries_step q es i x (boxed (logic_view x.1) q) here more refl))
    (entry_more o j zs q n (boxed (logic_view x.1) q) (λ d. entry_values (entries_view (drop (i + 1) es)) (q ++ (n, d) ∷ [])) (told q f) (λ d h. rest (q ++ (n, d) ∷ []) (fits_more ys q n o.range d f h)))))))

pub entries_done : (xs : Scope) (es : List Named) (i : ℕ) (l : Bool) (ys : Scope) → EntriesFrom xs es i l ys → length es ≤ i → TellsEntries xs (entries_view es) l ys
entries_done xs es i l ys before done =
    subst (λ b. TellsEntries xs (entries_view es) b ys) (or_none l)
    (before false ys
    (λ q f.
    let P : List Named → Type 0 = λ rest. EntriesTold false ys q (entry_values (entries_view rest) q) in
    subst P (sym (drop_all i es done)) (fits_same ys q (q ++ []) (sym (append-nil q)) f)))
