-- The rules that hit where some are known to miss.
use Rattle.std.proofs.Common.{◌≡◌, ◌∙◌, ◌⊎◌, inl, inr, sym, ap, ap₂, refl, subst, ℕ, zero, suc, ◌+◌, ◌*◌, ◌/◌, ◌%◌, ◌<◌, ◌≤◌, List, [], ◌∷◌, ◌++◌, map, take, drop, length, get_or, Bool, true, false, Option, None, Some, option_map, append_assoc, arith}
use Rattle.std.specs.List.{slice_get}
use Rattle.std.specs.Int.{bit_at}
use denote.Ref.{Bor}
use Rattle.std.proofs.lemmas.List.{drop-map, length-take, take-append-drop, map-append}
use Rattle.std.proofs.lemmas.Bool.Decides.{nat_tests}
use Rattle.std.proofs.lemmas.Nat.{div-add-mod'}
use Rattle.std.proofs.lemmas.Option.{get_or_from_slice_get, same_Some, slice_get-map, slice_get_within}
use Rattle.feel_value.specs.Datum.{Datum}
use Rattle.feel_value.specs.Found.{each, ◌>>=◌}
use Rattle.feel_text.specs.Meaning.{Bindings}
use Rattle.table_classes.specs.Classes.{AreRowsOf, IsUnsetIn}
use Rattle.table_classes.specs.declared.classes.ClassRules.{ClassRules}
use Rattle.dmn_table.specs.Classes.{MissUnset, input_entries}
use Rattle.dmn_table.specs.MayHit.{LeavesOut, LeavesOutOf, is_unset_in}
use Rattle.dmn_table.specs.declared.may_hit.MayHit.{MayHit}
use Rattle.dmn_table.specs.declared.table.Rule as code
use Rattle.dmn_table.specs.Hits.{does_hit, kept}
use Rattle.dmn_table.specs.Parts.{rule_view}
use Rattle.dmn_table.specs.RuleOutputs.{hits_among}
use Rattle.dmn_table.specs.Table.{Rule}
use Rattle.dmn_table.proofs.Each.{after, after_none}
use Rattle.dmn_table.proofs.Unbroken.{missed_at}

passed : (o : Option Bool) (p : Option (List Bool)) (x : Rule) (xs : List Rule) → o ≡ Some false
    → ((o >>= λ y. p >>= λ ys. Some (y ∷ ys)) >>= λ answers. Some (kept (x ∷ xs) answers)) ≡ (p >>= λ answers. Some (kept xs answers))
passed None p x xs e = cc
passed (Some true) p x xs e = cc
passed (Some false) None x xs e = refl
passed (Some false) (Some ys) x xs e = refl

-- a rule that misses is passed over
miss_first : (m : Bindings) (vs : List Datum) (x : Rule) (xs : List Rule) → does_hit m vs x ≡ Some false → hits_among m vs (x ∷ xs) ≡ hits_among m vs xs
miss_first m vs x xs e = passed (does_hit m vs x) (each (does_hit m vs) xs) x xs e

-- where all of them miss, none hits
pub none_hit : (m : Bindings) (vs : List Datum) (rules : List code.Rule) → ((i : ℕ) (r : code.Rule) → slice_get rules i ≡ Some r → does_hit m vs (rule_view r) ≡ Some false)
    → hits_among m vs (map rule_view rules) ≡ Some []
none_hit m vs [] h = refl
none_hit m vs (r ∷ rules) h = miss_first m vs (rule_view r) (map rule_view rules) (h 0 r refl) ∙ none_hit m vs rules (λ i s e. h (suc i) s e)

next_passed : (m : Bindings) (vs : List Datum) (rules : List code.Rule) (i : ℕ) → i < length rules → ((r : code.Rule) → slice_get rules i ≡ Some r → does_hit m vs (rule_view r) ≡ Some false)
    → hits_among m vs (map rule_view (drop i rules)) ≡ hits_among m vs (map rule_view (drop (suc i) rules))
next_passed m vs [] i h miss = absurd (omega (arith, h))
next_passed m vs (r ∷ rules) zero h miss = miss_first m vs (rule_view r) (map rule_view rules) (miss r refl)
next_passed m vs (r ∷ rules) (suc i) h miss = next_passed m vs rules i (omega (arith, h)) miss

-- the next rule misses
pub next_missed : (m : Bindings) (vs : List Datum) (rules : List code.Rule) (i : ℕ) → i < length rules → ((r : code.Rule) → slice_get rules i ≡ Some r → does_hit m vs (rule_view r) ≡ Some false)
    → hits_among m vs (map rule_view (drop i rules)) ≡ hits_among m vs (map rule_view (drop (i + 1) rules))
next_missed m vs rules i h miss =
    let next : suc i ≡ i + 1 = omega arith in
    next_passed m vs rules i h miss ∙ ap (λ k. hits_among m vs (map rule_view (drop k rules))) next

taken : (o : Option Bool) (p : Option (List Bool)) (x : Rule) (xs : List Rule) → o ≡ Some true
    → ((o >>= λ y. p >>= λ ys. Some (y ∷ ys)) >>= λ answers. Some (kept (x ∷ xs) answers)) ≡ after (x ∷ []) (p >>= λ answers. Some (kept xs answers))
taken None p x xs e = cc
taken (Some false) p x xs e = cc
taken (Some true) None x xs e = refl
taken (Some true) (Some ys) x xs e = refl

-- a rule that hits stands before the others that do
hit_first : (m : Bindings) (vs : List Datum) (x : Rule) (xs : List Rule) → does_hit m vs x ≡ Some true → hits_among m vs (x ∷ xs) ≡ after (x ∷ []) (hits_among m vs xs)
hit_first m vs x xs e = taken (does_hit m vs x) (each (does_hit m vs) xs) x xs e

broken : (o : Option Bool) (p : Option (List Bool)) (x : Rule) (xs : List Rule) → o ≡ None → ((o >>= λ y. p >>= λ ys. Some (y ∷ ys)) >>= λ answers. Some (kept (x ∷ xs) answers)) ≡ None
broken None p x xs e = refl
broken (Some b) p x xs e = cc

next_breaks : (m : Bindings) (vs : List Datum) (rules : List code.Rule) (i : ℕ) → i < length rules → ((r : code.Rule) → slice_get rules i ≡ Some r → does_hit m vs (rule_view r) ≡ None)
    → hits_among m vs (map rule_view (drop i rules)) ≡ None
next_breaks m vs [] i h none = absurd (omega (arith, h))
next_breaks m vs (r ∷ rules) zero h none = broken (does_hit m vs (rule_view r)) (each (does_hit m vs) (map rule_view rules)) (rule_view r) (map rule_view rules) (none r refl)
next_breaks m vs (r ∷ rules) (suc i) h none = next_breaks m vs rules i (omega (arith, h)) none

-- where an entry of the next rule breaks a limit, there are no hits
pub next_broken : (m : Bindings) (vs : List Datum) (rules : List code.Rule) (i : ℕ) (x : code.Rule) → i < length rules → x ≡ get_or rules i x → None ≡ does_hit m vs (rule_view x)
    → hits_among m vs (map rule_view (drop i rules)) ≡ None
next_broken m vs rules i x within here none =
    next_breaks m vs rules i within (λ r there. ap (λ (y : code.Rule). does_hit m vs (rule_view y)) (sym (get_or_from_slice_get rules i r x there) ∙ sym here) ∙ sym none)

after_both : (old hs : List Rule) (o : Option (List Rule)) → after old (after hs o) ≡ after (old ++ hs) o
after_both old hs None = refl
after_both old hs (Some ys) = ap Some (sym (append_assoc old hs ys))

-- what was found, where what is found is put behind others
found_of : (old new : List Rule) (o : Option (List Rule)) → Some new ≡ after old o → (hs : List Rule) × (o ≡ Some hs) × (new ≡ old ++ hs)
found_of old new None e = cc
found_of old new (Some hs) e = (hs, refl, same_Some new (old ++ hs) e)

-- the hits of a rule and others, and of rules behind them
hits_from_first : (m : Bindings) (vs : List Datum) (x : Rule) (xs ys zs : List Rule) → hits_among m vs (x ∷ xs) ≡ Some zs
    → ((hs : List Rule) → hits_among m vs xs ≡ Some hs → hits_among m vs (xs ++ ys) ≡ after hs (hits_among m vs ys))
    → (o : Option Bool) → does_hit m vs x ≡ o → hits_among m vs (x ∷ xs ++ ys) ≡ after zs (hits_among m vs ys)
hits_from_first m vs x xs ys zs e rest None f = let bad : None ≡ Some zs = sym (broken (does_hit m vs x) (each (does_hit m vs) xs) x xs f) ∙ e in cc
hits_from_first m vs x xs ys zs e rest (Some false) f = miss_first m vs x (xs ++ ys) f ∙ rest zs (sym (miss_first m vs x xs f) ∙ e)
hits_from_first m vs x xs ys zs e rest (Some true) f =
    let found = found_of (x ∷ []) zs (hits_among m vs xs) (sym e ∙ hit_first m vs x xs f) in
    hit_first m vs x (xs ++ ys) f
    ∙ ap (after (x ∷ [])) (rest found.0 found.1)
    ∙ after_both (x ∷ []) found.0 (hits_among m vs ys)
    ∙ ap (λ hs. after hs (hits_among m vs ys)) (sym found.2)

-- where there are none behind others, there are none
pub none_after : (old : List Rule) (o : Option (List Rule)) → None ≡ after old o → o ≡ None
none_after old None e = refl
none_after old (Some hs) e = cc

none_from_first : (m : Bindings) (vs : List Datum) (x : Rule) (xs ys : List Rule) → hits_among m vs (x ∷ xs) ≡ None → (hits_among m vs xs ≡ None → hits_among m vs (xs ++ ys) ≡ None)
    → (o : Option Bool) → does_hit m vs x ≡ o → hits_among m vs (x ∷ xs ++ ys) ≡ None
none_from_first m vs x xs ys e rest None f = broken (does_hit m vs x) (each (does_hit m vs) (xs ++ ys)) x (xs ++ ys) f
none_from_first m vs x xs ys e rest (Some false) f = miss_first m vs x (xs ++ ys) f ∙ rest (sym (miss_first m vs x xs f) ∙ e)
none_from_first m vs x xs ys e rest (Some true) f =
    hit_first m vs x (xs ++ ys) f ∙ ap (after (x ∷ [])) (rest (none_after (x ∷ []) (hits_among m vs xs) (sym (sym (hit_first m vs x xs f) ∙ e))))

-- where an entry of the first of two lists of rules breaks a limit, there are no hits
none_behind : (m : Bindings) (vs : List Datum) (xs ys : List Rule) → hits_among m vs xs ≡ None → hits_among m vs (xs ++ ys) ≡ None
none_behind m vs [] ys e = let no : Some [] ≡ None = e in cc
none_behind m vs (x ∷ xs) ys e = none_from_first m vs x xs ys e (λ f. none_behind m vs xs ys f) (does_hit m vs x) refl

-- the hits of two lists of rules, one behind the other
hits_behind : (m : Bindings) (vs : List Datum) (xs ys zs : List Rule) → hits_among m vs xs ≡ Some zs → hits_among m vs (xs ++ ys) ≡ after zs (hits_among m vs ys)
hits_behind m vs [] ys zs e = after_none (hits_among m vs ys) ∙ ap (λ hs. after hs (hits_among m vs ys)) (same_Some [] zs e)
hits_behind m vs (x ∷ xs) ys zs e = hits_from_first m vs x xs ys zs e (λ hs g. hits_behind m vs xs ys hs g) (does_hit m vs x) refl

-- ---- blocks of 64 rules

-- an element of the front
in_front : (k : ℕ) (xs : List code.Rule) (i : ℕ) (x : code.Rule) → slice_get (take k xs) i ≡ Some x → slice_get xs i ≡ Some x
in_front zero xs i x e = cc
in_front (suc k) [] i x e = cc
in_front (suc k) (y ∷ ys) zero x e = e
in_front (suc k) (y ∷ ys) (suc i) x e = in_front k ys i x e

parted : (k : ℕ) (rest block others : List code.Rule) → block ≡ take k rest → others ≡ drop k rest → map rule_view rest ≡ map rule_view block ++ map rule_view others
parted k rest block others front back =
    ap (map rule_view) (sym (take-append-drop k rest)) ∙ map-append rule_view (take k rest) (drop k rest) ∙ ap₂ (λ xs ys. map rule_view xs ++ map rule_view ys) (sym front) (sym back)

-- one block more
pub block_more : (m : Bindings) (vs : List Datum) (whole : Option (List Rule)) (old new : List Rule) (k : ℕ) (rest block others : List code.Rule)
    → whole ≡ after old (hits_among m vs (map rule_view rest)) → block ≡ take k rest → others ≡ drop k rest
    → Some new ≡ after old (hits_among m vs (map rule_view block)) → whole ≡ after new (hits_among m vs (map rule_view others))
block_more m vs whole old new k rest block others before front back added =
    let found = found_of old new (hits_among m vs (map rule_view block)) added in
    before
    ∙ ap (λ rs. after old (hits_among m vs rs)) (parted k rest block others front back)
    ∙ ap (after old) (hits_behind m vs (map rule_view block) (map rule_view others) found.0 found.1)
    ∙ after_both old found.0 (hits_among m vs (map rule_view others))
    ∙ ap (λ hs. after hs (hits_among m vs (map rule_view others))) (sym found.2)

-- where an entry of a block breaks a limit, there are no hits
pub block_broken : (m : Bindings) (vs : List Datum) (whole : Option (List Rule)) (old : List Rule) (k : ℕ) (rest block others : List code.Rule)
    → whole ≡ after old (hits_among m vs (map rule_view rest)) → block ≡ take k rest → others ≡ drop k rest
    → None ≡ after old (hits_among m vs (map rule_view block)) → None ≡ whole
block_broken m vs whole old k rest block others before front back none =
    sym (before
    ∙ ap (λ rs. after old (hits_among m vs rs)) (parted k rest block others front back)
    ∙ ap (after old) (none_behind m vs (map rule_view block) (map rule_view others) (none_after old (hits_among m vs (map rule_view block)) none)))

-- the input entries of a rule behind others
input_entries_behind : (n i : ℕ) (rules : List code.Rule) (r : code.Rule) → slice_get (drop n rules) i ≡ Some r → slice_get (drop n (input_entries rules)) i ≡ Some r.tests.items
input_entries_behind n i rules r there =
    ap (λ es. slice_get es i) (drop-map (λ (x : code.Rule). x.tests.items) n rules)
    ∙ slice_get-map (λ (x : code.Rule). x.tests.items) (drop n rules) i
    ∙ ap (option_map (λ (x : code.Rule). x.tests.items)) there

-- in a block a rule whose bit is not set misses
pub block_misses : (m : Bindings) (vs : List Datum) (rules block rest : List code.Rule) (rows : List (Option (Bor ClassRules))) (place k word : ℕ) → AreRowsOf (input_entries rules) vs rows
    → ((i : ℕ) → i < 64 → bit_at word i ≡ 0 → IsUnsetIn rows place i) → rest ≡ drop (64 * place) rules → block ≡ take k rest → k ≤ 64 → MissUnset m vs block word
block_misses m vs rules block rest rows place k word told unset left front few = λ i r there zero.
    let within : slice_get (take k rest) i ≡ Some r = ap (λ rs. slice_get rs i) (sym front) ∙ there in
    let small : i < 64 = omega (arith, few, slice_get_within (take k rest) i r within, length-take k rest) in
    let here : slice_get (drop (64 * place) rules) i ≡ Some r = ap (λ rs. slice_get rs i) (sym left) ∙ in_front k rest i r within in
    let u = unset i small zero in
    let row = told u.column u.row u.there in
    let at = row.of_class.1 place u.word u.has i r.tests.items small (input_entries_behind (64 * place) i rules r here) u.unset in
    missed_at m vs (rule_view r) u.column at.missed.entry row.value at.keeps at.missed.there row.there (at.missed.misses row.value m row.lawful row.of_class.0)

-- ---- rules that are left out

-- an element of a list that is one longer
pushed : {X : Type 0} (xs : List X) (x y : X) (w : ℕ) → slice_get (xs ++ x ∷ []) w ≡ Some y → (slice_get xs w ≡ Some y) ⊎ ((w ≡ length xs) × (x ≡ y))
pushed [] x y zero e = inr (refl, same_Some x y e)
pushed [] x y (suc w) e = cc
pushed (z ∷ xs) x y zero e = inl e
pushed (z ∷ xs) x y (suc w) e = elim (pushed xs x y w e) [ inl h ↦ inl h | inr h ↦ inr (ap suc h.0, h.1) ]

-- the bits that are not set in the words of the first blocks
abbrev pub TellsFirst : List (Option (Bor ClassRules)) → List ℕ → Type 0
TellsFirst rows words = (w word i : ℕ) → i < 64 → slice_get words w ≡ Some word → bit_at word i ≡ 0 → IsUnsetIn rows w i

pub one_more_word : (rows : List (Option (Bor ClassRules))) (old new : List ℕ) (last : ℕ) → TellsFirst rows old → new ≡ old ++ last ∷ []
    → ((i : ℕ) → i < 64 → bit_at last i ≡ 0 → IsUnsetIn rows (length old) i) → TellsFirst rows new
one_more_word rows old new last told is more w word i small there unset =
    elim (pushed old last word w (ap (λ ws. slice_get ws w) (sym is) ∙ there)) [
      | inl before ↦ told w word i small before unset
      | inr at ↦ subst (λ k. IsUnsetIn rows k i) (sym at.0) (more i small (ap (λ n. bit_at n i) at.1 ∙ unset))
    ]

-- an element behind others
behind_others : {X : Type 0} (n i : ℕ) (xs : List X) → slice_get (drop n xs) i ≡ slice_get xs (n + i)
behind_others zero i xs = let same : i ≡ 0 + i = omega arith in ap (slice_get xs) same
behind_others (suc n) i [] = refl
behind_others (suc n) i (x ∷ xs) = let next : suc (n + i) ≡ suc n + i = omega arith in behind_others n i xs ∙ ap (slice_get (x ∷ xs)) next

-- a rule misses whose bit is not set in the word of its block
missed_in_word : (m : Bindings) (vs : List Datum) (rules : List code.Rule) (rows : List (Option (Bor ClassRules))) (w i : ℕ) (r : code.Rule) → AreRowsOf (input_entries rules) vs rows → IsUnsetIn rows w i
    → i < 64 → slice_get rules (64 * w + i) ≡ Some r → does_hit m vs (rule_view r) ≡ Some false
missed_in_word m vs rules rows w i r told u small there =
    let row = told u.column u.row u.there in
    let here : slice_get (drop (64 * w) rules) i ≡ Some r = behind_others (64 * w) i rules ∙ there in
    let at = row.of_class.1 w u.word u.has i r.tests.items small (input_entries_behind (64 * w) i rules r here) u.unset in
    missed_at m vs (rule_view r) u.column at.missed.entry row.value at.keeps at.missed.there row.there (at.missed.misses row.value m row.lawful row.of_class.0)

pub left_out : (vs : List Datum) (rules : List code.Rule) (rows : List (Option (Bor ClassRules))) (some : MayHit) → AreRowsOf (input_entries rules) vs rows
    → TellsFirst rows some.words.items → LeavesOut rules vs some
left_out vs rules rows some told words m i r there out = go (slice_get some.words.items (i / 64)) refl out
  where
    whole : 64 * (i / 64) + i % 64 ≡ i
    whole = omega (arith, div-add-mod' i 64)

    go : (o : Option ℕ) → slice_get some.words.items (i / 64) ≡ o → is_unset_in o (i % 64) ≡ true → does_hit m vs (rule_view r) ≡ Some false
    go None e h = cc
    go (Some word) e h =
        let small : i % 64 < 64 = omega arith in
        missed_in_word m vs rules rows (i / 64) (i % 64) r told (words (i / 64) word (i % 64) small e (grind (arith, nat_tests, h))) small (ap (slice_get rules) whole ∙ there)

-- where nothing is known, nothing is left out
pub none_left_out : (vs : List Datum) (rules : List code.Rule) (some : MayHit) → some.words.items ≡ [] → LeavesOut rules vs some
none_left_out vs rules some none m i r there out = let no : false ≡ true = sym (ap (λ ws. is_unset_in (slice_get ws (i / 64)) (i % 64)) none) ∙ out in cc

pub left_out_of : (vs : List Datum) (rules : List code.Rule) (some : MayHit) → LeavesOut rules vs some → LeavesOutOf (map rule_view rules) vs some
left_out_of vs rules some told m i r there out = go (slice_get rules i) refl
  where
    go : (o : Option code.Rule) → slice_get rules i ≡ o → does_hit m vs r ≡ Some false
    go None e = let no : None ≡ Some r = ap (option_map rule_view) (sym e) ∙ sym (slice_get-map rule_view rules i) ∙ there in cc
    go (Some x) e =
        let same : rule_view x ≡ r = same_Some (rule_view x) r (ap (option_map rule_view) (sym e) ∙ sym (slice_get-map rule_view rules i) ∙ there) in
        subst (λ y. does_hit m vs y ≡ Some false) same (told m i x e out)
