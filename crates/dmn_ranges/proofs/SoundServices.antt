-- What is told of the places of a plan holds of what a run finds there.
use Rattle.std.proofs.Common.{◌≡◌, ◌∙◌, refl, sym, ap, subst, ℕ, zero, suc, ◌+◌, ◌<◌, ◌≤◌, List, [], ◌∷◌, ◌++◌, length, get_or, drop, map, append_assoc, add-one, Bool, true, false, cond, ◌||◌, Option, None, Some, option_map, unwrap_or, if◌then◌else◌, inl, inr, ◌⊎◌, arith}
use Rattle.std.specs.Prelude.{bytes_eq, nat_eq, slice_set, ◌≢◌}
use denote.Ref.{Bor}
use Rattle.std.specs.List.{slice_get, zip, All}
use Rattle.std.proofs.lemmas.Bool.Decides.{eqb_tells}
use Rattle.std.proofs.lemmas.List.{at_drop_more, drop_all, get_or-map}
use Rattle.feel_value.specs.Datum.{Datum, null, context, entries_of, Entries}
use Rattle.feel_value.specs.Found.{value_of, ◌>>=◌, each, outcome_from}
use Rattle.feel_value.specs.Limits.{is_value}
use Rattle.feel_value.specs.declared.feel.Outcome.{Outcome}
use Rattle.feel_value.specs.declared.feel.Outcome.TheVariants.{Is, Limit}
use Rattle.feel_text.specs.Expr.{Expr}
use Rattle.feel_text.specs.Meaning.{Bindings, bound, first_some}
use Rattle.dmn_table.specs.Hits.{one_or_context}
use Rattle.dmn_table.specs.Table.{Table}
use Rattle.dmn_form.specs.Model.{Name, Boxed}
use Rattle.dmn_logic.specs.Boxed.{boxed}
use Rattle.dmn_logic.specs.LogicView.{logic_view}
use Rattle.dmn_service.specs.Places.{name_at, needs_at}
use Rattle.dmn_service.specs.Run.{Found, nothing_found, kept_at, needed_at, outcome_at, filled_by, given_at, logic_at, outputs_at}
use Rattle.dmn_service.specs.declared.plan.Item.{Item}
use Rattle.dmn_ranges.specs.Ranges.{Extent, Members, Scope, Fits, lies_in, lie_in, lies_within, covers, null_alone, named_or, extent_named, extent_of, plain, AreWithin, members_of}
use Rattle.dmn_ranges.specs.Steps.{given, limited}
use Rattle.dmn_ranges.specs.Tables.{some_context}
use Rattle.dmn_ranges.specs.Boxes.{TellsBox}
use Rattle.dmn_ranges.specs.Services.{not_found, told_at, TellsFound, known_at, lie_if, KnowsFound, Told, Tells, given_if, domain_at, given_told, members_given, given_known, needs_scope, needs_limit, views, TellsItem, TellsFilled, outputs_outcomes}
use Rattle.dmn_ranges.specs.Names.{members_if}
use Rattle.dmn_ranges.specs.declared.outcomes.Outcomes.{Outcomes}
use Rattle.dmn_ranges.specs.declared.range.ParameterRange.{ParameterRange}
use Rattle.dmn_ranges.proofs.Forms.{limited_covers}
use Rattle.dmn_ranges.proofs.Joins.{and_both, or_left, or_right}
use Rattle.dmn_ranges.proofs.SoundMembers.{range_within, members_within}
use Rattle.dmn_ranges.proofs.SoundRules.{context_if}

-- ---- a place that is written

get-set_here : {A : Type 0} (xs : List A) (k : ℕ) (a : A) → k < length xs → slice_get (slice_set xs k a) k ≡ Some a
get-set_here [] k a inside = absurd (omega (arith, inside))
get-set_here (x ∷ xs) zero a inside = refl
get-set_here (x ∷ xs) (suc k) a inside = get-set_here xs k a (omega (arith, inside))

get-set_apart : {A : Type 0} (xs : List A) (k q : ℕ) (a : A) → k ≢ q → slice_get (slice_set xs k a) q ≡ slice_get xs q
get-set_apart [] k q a apart = refl
get-set_apart (x ∷ xs) zero zero a apart = absurd (apart refl)
get-set_apart (x ∷ xs) zero (suc q) a apart = refl
get-set_apart (x ∷ xs) (suc k) zero a apart = refl
get-set_apart (x ∷ xs) (suc k) (suc q) a apart = get-set_apart xs k q a (λ e. apart (ap suc e))

get-set : {A : Type 0} (xs : List A) (k q : ℕ) (a : A) → k < length xs → slice_get (slice_set xs k a) q ≡ cond (nat_eq k q) (Some a) (slice_get xs q)
get-set {A} xs k q a inside = go (eqb_tells k q)
  where
    go : ((nat_eq k q ≡ true) × (k ≡ q)) ⊎ ((nat_eq k q ≡ false) × (k ≢ q)) → slice_get (slice_set xs k a) q ≡ cond (nat_eq k q) (Some a) (slice_get xs q)
    go (inl e) = ap (slice_get (slice_set xs k a)) (sym e.1) ∙ get-set_here xs k a inside ∙ sym (ap (λ b. cond b (Some a) (slice_get xs q)) e.0)
    go (inr e) = get-set_apart xs k q a e.1 ∙ sym (ap (λ b. cond b (Some a) (slice_get xs q)) e.0)

kept_by : (b : Bool) (o : Outcomes) (p : Outcome) (w : Option Outcomes) (f : Option Datum) → covers o p ≡ true → covers (unwrap_or w not_found) (outcome_from Is f) ≡ true
    → covers (unwrap_or (cond b (Some o) w) not_found) (outcome_from Is (cond b (value_of p) f)) ≡ true
kept_by true o (Is d) w f h k = h
kept_by true o Limit w f h k = h
kept_by false o p w f h k = k

pub keep_told : (told : List Outcomes) (found : Found) (k : ℕ) (o : Outcomes) (p : Outcome) → k < length told → TellsFound told found → covers o p ≡ true → TellsFound (slice_set told k o) (kept_at found k p)
keep_told told found k o p inside tells h q =
    let P : Option Outcomes → Type 0 = λ w. covers (unwrap_or w not_found) (outcome_from Is (kept_at found k p q)) ≡ true in
    subst P (sym (get-set told k q o inside)) (kept_by (nat_eq k q) o p (slice_get told q) (found q) h (tells q))

known_by : (b : Bool) (ms : Members) (p : Outcome) (w : Option Members) (f : Option Datum) → lie_if ms (value_of p) ≡ true → lie_if (unwrap_or w []) f ≡ true → lie_if (unwrap_or (cond b (Some ms) w) []) (cond b (value_of p) f) ≡ true
known_by true ms p w f h k = h
known_by false ms p w f h k = k

pub keep_known : (known : List Members) (found : Found) (k : ℕ) (ms : Members) (p : Outcome) → k < length known → KnowsFound known found → lie_if ms (value_of p) ≡ true → KnowsFound (slice_set known k ms) (kept_at found k p)
keep_known known found k ms p inside knows h q =
    let P : Option Members → Type 0 = λ w. lie_if (unwrap_or w []) (kept_at found k p q) ≡ true in
    subst P (sym (get-set known k q ms inside)) (known_by (nat_eq k q) ms p (slice_get known q) (found q) h (knows q))

pub none_lie : (f : Option Datum) → lie_if [] f ≡ true
none_lie None = refl
none_lie (Some d) = refl

pub none_told : (told : List Outcomes) → ((q : ℕ) → told_at told q ≡ not_found) → TellsFound told nothing_found
none_told told none q = ap (λ (o : Outcomes). covers o Limit) (none q)

pub none_more : (told : List Outcomes) → ((q : ℕ) → told_at told q ≡ not_found) → (q : ℕ) → told_at (told ++ not_found ∷ []) q ≡ not_found
none_more [] none zero = refl
none_more [] none (suc q) = refl
none_more (o ∷ told) none zero = none 0
none_more (o ∷ told) none (suc q) = none_more told (λ p. none (suc p)) q

pub views_at : (known : List (Option (Bor ParameterRange))) (q : ℕ) → members_if (unwrap_or (slice_get known q) None) ≡ known_at (views known) q
views_at [] q = refl
views_at (k ∷ known) zero = refl
views_at (k ∷ known) (suc q) = views_at known q

pub views_set : (known : List (Option (Bor ParameterRange))) (k : ℕ) (p : Option (Bor ParameterRange)) → views (slice_set known k p) ≡ slice_set (views known) k (members_if p)
views_set [] k p = refl
views_set (x ∷ known) zero p = refl
views_set (x ∷ known) (suc k) p = ap (λ (ks : List Members). members_if x ∷ ks) (views_set known k p)

pub views_length : (known : List (Option (Bor ParameterRange))) → length (views known) ≡ length known
views_length [] = refl
views_length (k ∷ known) = ap suc (views_length known)

-- ---- the needs of a decision

first_some_assoc : (o p q : Option Datum) → first_some (first_some o p) q ≡ first_some o (first_some p q)
first_some_assoc None p q = refl
first_some_assoc (Some d) p q = refl

here_by : (t : Bool) (r s : Extent) (v : Datum) (o : Option Datum) → lies_within s v ≡ true → lies_within r (unwrap_or o null) ≡ true → lies_within (if t then s else r) (unwrap_or (first_some (if t then Some v else None) o) null) ≡ true
here_by true r s v o h k = h
here_by false r s v o h k = k

-- the same behind a name that was told before
abbrev pub FitsBehind : Scope → Bindings → Type 0
FitsBehind xs m = (name : Name) (r : Extent) (o : Option Datum) → lies_within r (unwrap_or o null) ≡ true → lies_within (named_or r xs name) (unwrap_or (first_some (bound name m) o) null) ≡ true

one_behind : (n : Name) (s : Extent) (v : Datum) (xs : Scope) (m : Bindings) → lies_within s v ≡ true → FitsBehind xs m → FitsBehind ((n, s) ∷ xs) ((n, v) ∷ m)
one_behind n s v xs m h fits name r o k =
    let P : Option Datum → Type 0 = λ p. lies_within (named_or (if bytes_eq name n then s else r) xs name) (unwrap_or p null) ≡ true in
    subst P (sym (first_some_assoc (bound name m) (if bytes_eq name n then Some v else None) o))
    (fits name (if bytes_eq name n then s else r) (first_some (if bytes_eq name n then Some v else None) o) (here_by (bytes_eq name n) r s v o h k))

first_some_none : (o : Option Datum) → first_some o None ≡ o
first_some_none None = refl
first_some_none (Some d) = refl

pub fits_alone : (xs : Scope) (m : Bindings) → FitsBehind xs m → Fits xs m
fits_alone xs m fits name =
    let P : Option Datum → Type 0 = λ p. lies_within (extent_named xs name) (unwrap_or p null) ≡ true in
    subst P (first_some_none (bound name m)) (fits name (plain null_alone) None refl)

abbrev pub NeedsTold : Bool → Scope → Option Bindings → Type 0
NeedsTold l xs None = l ≡ true
NeedsTold l xs (Some m) = FitsBehind xs m

need_more : (n : Name) (o : Outcomes) (ms : Members) (l : Bool) (xs : Scope) (f : Option Datum) (rest : Option Bindings) → covers o (outcome_from Is f) ≡ true → lie_if ms f ≡ true → NeedsTold l xs rest
    → NeedsTold (o.limit || l) ((n, (o.range, ms)) ∷ xs) ((f >>= λ v. Some (n, v)) >>= λ y. rest >>= λ ys. Some (y ∷ ys))
need_more n o ms l xs None rest h g k = or_left o.limit l h
need_more n o ms l xs (Some v) None h g k = or_right o.limit l k
need_more n o ms l xs (Some v) (Some m) h g k = one_behind n (o.range, ms) v xs m (and_both (lies_in o.range v) (lie_in ms v) h g) k

pub needs_told : (name : ℕ → Name) (told : Told) (found : Found) (qs : List ℕ) → Tells told found → NeedsTold (needs_limit told.0 qs) (needs_scope name told qs) (needed_at name found qs)
needs_told name told found [] tells = λ n r o h. h
needs_told name told found (q ∷ qs) tells =
    need_more (name q) (told_at told.0 q) (known_at told.1 q) (needs_limit told.0 qs) (needs_scope name told qs) (found q) (needed_at name found qs) (tells.0 q) (tells.1 q) (needs_told name told found qs tells)

decision_by : (l : Bool) (xs : Scope) (b : Boxed Expr Table) (o : Outcomes) (m : Option Bindings) → TellsBox xs b o → NeedsTold l xs m → covers (limited l o) (outcome_from (boxed b) m) ≡ true
decision_by l xs b o None tells told = or_left l o.limit told
decision_by l xs b o (Some m) tells told = limited_covers l o (boxed b m) (tells m (fits_alone xs m told))

pub logic_told : (items : List Item) (told : Told) (item : Item) (b : Boxed Expr Table) (xs : Scope) (l : Bool) (o : Outcomes) → xs ≡ needs_scope (name_at items) told item.needs.items → l ≡ needs_limit told.0 item.needs.items
    → TellsBox xs b o → option_map logic_view item.logic ≡ Some b → TellsItem items told item (limited l o)
logic_told items told item b xs l o names limit tells is found known =
    let qs : List ℕ = item.needs.items in
    let P : Option (Boxed Expr Table) → Type 0 = λ logic. covers (limited l o) (outcome_at (name_at items) found qs logic) ≡ true in
    let Q : Scope → Type 0 = λ ys. NeedsTold l ys (needed_at (name_at items) found qs) in
    let R : Bool → Type 0 = λ k. NeedsTold k (needs_scope (name_at items) told qs) (needed_at (name_at items) found qs) in
    subst P (sym is) (decision_by l xs b o (needed_at (name_at items) found qs) tells (subst Q (sym names) (subst R (sym limit) (needs_told (name_at items) told found qs known))))

pub input_told : (items : List Item) (told : Told) (item : Item) → option_map logic_view item.logic ≡ None → TellsItem items told item (given null_alone)
input_told items told item is found known =
    let P : Option (Boxed Expr Table) → Type 0 = λ logic. covers (given null_alone) (outcome_at (name_at items) found item.needs.items logic) ≡ true in
    subst P (sym is) refl

-- ---- the places along

pub length_set : {A : Type 0} (xs : List A) (k : ℕ) (a : A) → length (slice_set xs k a) ≡ length xs
length_set [] k a = refl
length_set (x ∷ xs) zero a = refl
length_set (x ∷ xs) (suc k) a = ap suc (length_set xs k a)

pub first_inside : (n q : ℕ) (qs : List ℕ) → All (λ p. p < n) (q ∷ qs) → q < n
first_inside n q qs all = all 0 0 (omega arith)

pub others_inside : (n q : ℕ) (qs : List ℕ) → All (λ p. p < n) (q ∷ qs) → All (λ p. p < n) qs
others_inside n q qs all = λ i d h. all (suc i) d (omega (arith, h))

next_drop : (xs : List ParameterRange) (i : ℕ) (r : ParameterRange) (rs : List ParameterRange) → drop i xs ≡ r ∷ rs → (slice_get xs i ≡ Some r) × (drop (suc i) xs ≡ rs)
next_drop [] zero r rs e = cc
next_drop [] (suc i) r rs e = cc
next_drop (x ∷ xs) zero r rs e = ((cc), (cc))
next_drop (x ∷ xs) (suc i) r rs e = next_drop xs i r rs e

given_sound : (n : ℕ) (domains : List ParameterRange) (i : ℕ) (rs : List ParameterRange) (qs : List ℕ) (vs : List Datum) (told : List Outcomes) (found : Found) → drop i domains ≡ rs → AreWithin rs vs → All (λ p. p < n) qs → n ≡ length told
    → length qs ≡ length vs → TellsFound told found → TellsFound (given_told domains i qs told) (given_at qs vs found)
given_sound n domains i rs [] vs told found at within all count same tells = tells
given_sound n domains i rs (q ∷ qs) [] told found at within all count same tells = absurd (omega (arith, same))
given_sound n domains i [] (q ∷ qs) (v ∷ vs) told found at within all count same tells = absurd within
given_sound n domains i (r ∷ rs) (q ∷ qs) (v ∷ vs) told found at within all count same tells =
    let here = next_drop domains i r rs at in
    let P : Option ParameterRange → Type 0 = λ o. covers (given_if o) (Is v) ≡ true in
    given_sound n domains (suc i) rs qs vs (slice_set told q (domain_at domains i)) (kept_at found q (Is v)) here.1 within.1 (others_inside n q qs all) (count ∙ sym (length_set told q (domain_at domains i))) (omega (arith, same))
    (keep_told told found q (domain_at domains i) (Is v) (omega (arith, count, first_inside n q qs all)) tells (subst P (sym here.0) (range_within (extent_of r) v within.0)))

known_sound : (n : ℕ) (domains : List ParameterRange) (i : ℕ) (rs : List ParameterRange) (qs : List ℕ) (vs : List Datum) (known : List Members) (found : Found) → drop i domains ≡ rs → AreWithin rs vs → All (λ p. p < n) qs → n ≡ length known
    → length qs ≡ length vs → KnowsFound known found → KnowsFound (given_known domains i qs known) (given_at qs vs found)
known_sound n domains i rs [] vs known found at within all count same knows = knows
known_sound n domains i rs (q ∷ qs) [] known found at within all count same knows = absurd (omega (arith, same))
known_sound n domains i [] (q ∷ qs) (v ∷ vs) known found at within all count same knows = absurd within
known_sound n domains i (r ∷ rs) (q ∷ qs) (v ∷ vs) known found at within all count same knows =
    let here = next_drop domains i r rs at in
    let ms : Members = members_given (slice_get domains i) in
    let P : Option ParameterRange → Type 0 = λ o. lie_in (members_given o) v ≡ true in
    known_sound n domains (suc i) rs qs vs (slice_set known q ms) (kept_at found q (Is v)) here.1 within.1 (others_inside n q qs all) (count ∙ sym (length_set known q ms)) (omega (arith, same))
    (keep_known known found q ms (Is v) (omega (arith, count, first_inside n q qs all)) knows (subst P (sym here.0) (members_within (extent_of r) v within.0)))

pub within_length : (rs : List ParameterRange) (vs : List Datum) → AreWithin rs vs → length rs ≡ length vs
within_length [] [] h = refl
within_length [] (v ∷ vs) h = absurd h
within_length (r ∷ rs) [] h = absurd h
within_length (r ∷ rs) (v ∷ vs) h = ap suc (within_length rs vs h.1)

pub along_sound : (items : List Item) (ps : List ℕ) (domains : List ParameterRange) (start : List Outcomes) (blank : List Members) (vs : List Datum) → ((q : ℕ) → told_at start q ≡ not_found) → length start ≡ length items
    → length blank ≡ length items → All (λ p. p < length items) ps → length domains ≡ length ps → AreWithin domains vs → Tells (given_told domains 0 ps start, given_known domains 0 ps blank) (given_at ps vs nothing_found)
along_sound items ps domains start blank vs none count places inside same within = (
  given_sound (length items) domains 0 domains ps vs start nothing_found refl within inside (sym count) (sym same ∙ within_length domains vs within) (none_told start none),
  known_sound (length items) domains 0 domains ps vs blank nothing_found refl within inside (sym places) (sym same ∙ within_length domains vs within) (λ q. refl),
)

-- ---- the outputs

one_output : (n : Name) (o : Outcomes) (f : Option Datum) → covers o (outcome_from Is f) ≡ true → covers o (outcome_from (one_or_context (n ∷ [])) (f >>= λ y. Some (y ∷ []))) ≡ true
one_output n o None h = h
one_output n o (Some d) h = h

many_outputs : (n k : Name) (ns : List Name) (vs : Option (List Datum)) → covers some_context (outcome_from (one_or_context (n ∷ k ∷ ns)) vs) ≡ true
many_outputs n k ns None = refl
many_outputs n k ns (Some vs) = let es : Entries = entries_of (zip (n ∷ k ∷ ns) vs) in context_if es (is_value (context es)) refl

pub outputs_told : (name : ℕ → Name) (told : List Outcomes) (found : Found) (qs : List ℕ) → TellsFound told found → covers (outputs_outcomes told qs) (outputs_at name found qs) ≡ true
outputs_told name told found [] tells = refl
outputs_told name told found (q ∷ []) tells = one_output (name q) (told_at told q) (found q) (tells q)
outputs_told name told found (q ∷ p ∷ qs) tells = many_outputs (name q) (name p) (map name qs) (each found (q ∷ p ∷ qs))

-- ---- the code's loops

pub need_turn : (name : ℕ → Name) (told : Told) (whole old next : Scope) (qs : List ℕ) (i : ℕ) → whole ≡ old ++ needs_scope name told (drop i qs) → i < length qs
    → next ≡ old ++ (name (get_or qs i 0), ((told_at told.0 (get_or qs i 0)).range, known_at told.1 (get_or qs i 0))) ∷ [] → whole ≡ next ++ needs_scope name told (drop (i + 1) qs)
need_turn name told whole old next qs i so_far more bound =
    so_far ∙ at_drop_more (λ ps. old ++ needs_scope name told ps) qs i 0 more
    ∙ sym (append_assoc old ((name (get_or qs i 0), ((told_at told.0 (get_or qs i 0)).range, known_at told.1 (get_or qs i 0))) ∷ []) (needs_scope name told (drop (i + 1) qs)))
    ∙ ap (λ zs. zs ++ needs_scope name told (drop (i + 1) qs)) (sym bound)

or_behind : (a b c : Bool) → (a || (b || c)) ≡ ((a || b) || c)
or_behind true b c = refl
or_behind false b c = refl

pub limit_needed : (told : List Outcomes) (whole l k : Bool) (qs : List ℕ) (i : ℕ) → whole ≡ (l || needs_limit told (drop i qs)) → i < length qs → k ≡ (l || (told_at told (get_or qs i 0)).limit) → whole ≡ (k || needs_limit told (drop (i + 1) qs))
limit_needed told whole l k qs i so_far more joined =
    so_far ∙ at_drop_more (λ ps. l || needs_limit told ps) qs i 0 more
    ∙ or_behind l (told_at told (get_or qs i 0)).limit (needs_limit told (drop (i + 1) qs))
    ∙ ap (λ b. b || needs_limit told (drop (i + 1) qs)) (sym joined)

pub know_turn : (domains : List ParameterRange) (whole old next : List Members) (qs : List ℕ) (i : ℕ) (ms : Members) → whole ≡ given_known domains i (drop i qs) old → i < length qs → ms ≡ members_given (slice_get domains i)
    → next ≡ slice_set old (get_or qs i 0) ms → whole ≡ given_known domains (i + 1) (drop (i + 1) qs) next
know_turn domains whole old next qs i ms so_far more known kept =
    so_far ∙ at_drop_more (λ ps. given_known domains i ps old) qs i 0 more
    ∙ ap (λ (ks : Members). given_known domains (suc i) (drop (i + 1) qs) (slice_set old (get_or qs i 0) ks)) (sym known)
    ∙ ap (λ ts. given_known domains (suc i) (drop (i + 1) qs) ts) (sym kept)
    ∙ ap (λ (n : ℕ). given_known domains n (drop (i + 1) qs) next) (sym (add-one i))

pub give_turn : (domains : List ParameterRange) (whole old next : List Outcomes) (qs : List ℕ) (i : ℕ) (o : Outcomes) → whole ≡ given_told domains i (drop i qs) old → i < length qs → o ≡ domain_at domains i → next ≡ slice_set old (get_or qs i 0) o
    → whole ≡ given_told domains (i + 1) (drop (i + 1) qs) next
give_turn domains whole old next qs i o so_far more told kept =
    so_far ∙ at_drop_more (λ ps. given_told domains i ps old) qs i 0 more
    ∙ ap (λ (p : Outcomes). given_told domains (suc i) (drop (i + 1) qs) (slice_set old (get_or qs i 0) p)) (sym told)
    ∙ ap (λ ts. given_told domains (suc i) (drop (i + 1) qs) ts) (sym kept)
    ∙ ap (λ (n : ℕ). given_told domains n (drop (i + 1) qs) next) (sym (add-one i))

item_here : (items : List Item) (q : ℕ) (x : Item) (told : Told) (o : Outcomes) → q < length items → x ≡ get_or items q x → TellsItem items told x o
    → (found : Found) → Tells told found → covers o (outcome_at (name_at items) found (needs_at items q) (logic_at items q)) ≡ true
item_here items q x told o inside here tells found known =
    let needs : needs_at items q ≡ x.needs.items = get_or-map (λ (y : Item). y.needs.items) items q x _ inside ∙ ap (λ (y : Item). y.needs.items) (sym here) in
    let logic : logic_at items q ≡ option_map logic_view x.logic = get_or-map (λ (y : Item). option_map logic_view y.logic) items q x None inside ∙ ap (λ (y : Item). option_map logic_view y.logic) (sym here) in
    let P : List ℕ → Type 0 = λ qs. covers o (outcome_at (name_at items) found qs (logic_at items q)) ≡ true in
    let Q : Option (Boxed Expr Table) → Type 0 = λ l. covers o (outcome_at (name_at items) found x.needs.items l) ≡ true in
    subst P (sym needs) (subst Q (sym logic) (tells found known))

-- what is told once all places are filled, wherever it is once those from one on are
abbrev pub FilledFrom : List Item → List ℕ → ℕ → Told → Told → Type 0
FilledFrom items order i start told = (more : Told) → TellsFilled items (drop i order) told more → TellsFilled items order start more

pub filled_begin : (items : List Item) (order : List ℕ) (start : Told) → FilledFrom items order 0 start start
filled_begin items order start more rest = rest

inside_told : (q n l : ℕ) → q < n → l ≡ n → q < l
inside_told q n l inside same = omega (arith, inside, same)

-- a place is filled, and nothing is known of its members
pub tells_kept : (told : Told) (found : Found) (q : ℕ) (o : Outcomes) (p : Outcome) → q < length told.0 → q < length told.1 → Tells told found → covers o p ≡ true → Tells (slice_set told.0 q o, slice_set told.1 q []) (kept_at found q p)
tells_kept told found q o p inside within tells h = (keep_told told.0 found q o p inside tells.0 h, keep_known told.1 found q [] p within tells.1 (none_lie (value_of p)))

pub filled_turn : (items : List Item) (order : List ℕ) (i : ℕ) (x : Item) (o : Outcomes) (start told next : Told) → FilledFrom items order i start told → i < length order → get_or order i 0 < length items → length told.0 ≡ length items
    → length told.1 ≡ length items → x ≡ get_or items (get_or order i 0) x → TellsItem items told x o → next ≡ (slice_set told.0 (get_or order i 0) o, slice_set told.1 (get_or order i 0) []) → FilledFrom items order (i + 1) start next
filled_turn items order i x o start told next before more inside count places here tells kept later rest =
    before later
    (λ found known.
    let q : ℕ = get_or order i 0 in
    let p : Outcome = outcome_at (name_at items) found (needs_at items q) (logic_at items q) in
    let P : List ℕ → Type 0 = λ qs. Tells later (filled_by items qs found) in
    let Q : Told → Type 0 = λ ts. Tells ts (kept_at found q p) in
    subst P (sym (at_drop_more (λ qs. qs) order i 0 more))
    (rest (kept_at found q p) (subst Q (sym kept) (tells_kept told found q o p (inside_told q (length items) (length told.0) inside count) (inside_told q (length items) (length told.1) inside places) known (item_here items q x told o inside here tells found known)))))

pub filled_done : (items : List Item) (order : List ℕ) (i : ℕ) (start told : Told) → FilledFrom items order i start told → length order ≤ i → TellsFilled items order start told
filled_done items order i start told before done =
    before told (λ found known. (let P : List ℕ → Type 0 = λ qs. Tells told (filled_by items qs found) in subst P (sym (drop_all i order done)) known))
