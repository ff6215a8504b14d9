-- What is told of unary tests holds of what they answer.
use Rattle.std.proofs.Common.{◌≡◌, refl, ap, subst, Bool, true, false, ◌||◌, List, [], ◌∷◌}
use Rattle.std.specs.List.{fold}
use Rattle.feel_value.specs.Comparison.{equal, less}
use Rattle.feel_value.specs.Datum.{Datum, null, boolean, number, text, list, context}
use Rattle.feel_value.specs.Logic.{is_yes, and_of, or_of, decided}
use Rattle.feel_value.specs.declared.feel.Outcome.{Outcome}
use Rattle.feel_value.specs.declared.feel.Outcome.TheVariants.{Is, Limit}
use Rattle.feel_value.specs.declared.logic.Truth.{Truth}
use Rattle.feel_value.specs.declared.logic.Truth.TheVariants.{Yes, No, Unknown}
use Rattle.feel_text.specs.Meaning.{Bindings, den}
use Rattle.feel_text.specs.Satisfied.{Answer, Told, Broken, answer, joined, stands_to, low_bound, high_bound, is_listed, is_in, tested, tested_any, opposite_answer, satisfied}
use Rattle.feel_text.specs.Tests.{Bound, Below, AtMost, Above, AtLeast, Test, Compares, Interval, Equals, Tests, Any, OneOf, NoneOf}
use Rattle.dmn_ranges.specs.Ranges.{Scope, Fits, lies_in, covers}
use Rattle.dmn_ranges.specs.Steps.{outcomes, less_truths, equal_truths, and_truths, or_truths}
use Rattle.dmn_ranges.specs.Entries.{stands, among, answered, both_answers, test_answers, never, or_test, any_answers, opposite_answers, entry_answers}
use Rattle.dmn_ranges.specs.declared.entries.Answers.{Answers}
use Rattle.dmn_ranges.specs.declared.outcomes.Outcomes.{Outcomes}
use Rattle.dmn_ranges.specs.declared.range.Range.{Range}
use Rattle.dmn_ranges.specs.declared.truths.Truths.{Truths}
use Rattle.dmn_ranges.proofs.Comparisons.{less_told, equal_told}
use Rattle.dmn_ranges.proofs.Joins.{or_left, or_right, list_in}
use Rattle.dmn_ranges.proofs.Sound.{sound}
use Rattle.dmn_ranges.proofs.TruthSets.{tells, opposite_told, and_told, or_told}

-- whether it is one of these answers
abbrev pub answers : Answers → Answer → Bool
answers a (Told t) = tells a.truth t
answers a Broken = a.limit

answered_told : (o : Outcomes) (p : Outcome) (f : Range → Truths) (g : Datum → Truth) → covers o p ≡ true → ((d : Datum) → lies_in o.range d ≡ true → tells (f o.range) (g d) ≡ true) → answers (answered o f) (answer p g) ≡ true
answered_told o (Is d) f g h k = k d h
answered_told o Limit f g h k = h

stands_told : (b : Bound) (v r : Range) (x d : Datum) → lies_in v x ≡ true → lies_in r d ≡ true → tells (stands b v r) (stands_to b x d) ≡ true
stands_told Below v r x d h k = less_told v r x d h k
stands_told AtMost v r x d h k = opposite_told (less_truths r v) (less d x) (less_told r v d x k h)
stands_told Above v r x d h k = less_told r v d x k h
stands_told AtLeast v r x d h k = opposite_told (less_truths v r) (less x d) (less_told v r x d h k)

both_told : (f : Truths → Truths → Truths) (g : Truth → Truth → Truth) → ((a b : Truths) (p q : Truth) → tells a p ≡ true → tells b q ≡ true → tells (f a b) (g p q) ≡ true)
    → (a b : Answers) (p q : Answer) → answers a p ≡ true → answers b q ≡ true → answers (both_answers f a b) (joined g p q) ≡ true
both_told f g step a b (Told s) (Told t) h k = step a.truth b.truth s t h k
both_told f g step a b (Told s) Broken h k = or_right a.limit b.limit k
both_told f g step a b Broken q h k = or_left a.limit b.limit h

-- ---- membership

listed_told : (r : Range) (x d : Datum) → lies_in r d ≡ true → is_listed x d ≡ true → r.lists ≡ true
listed_told r x (list ds) h k = list_in r ds h
listed_told r x null h k = cc
listed_told r x (boolean b) h k = cc
listed_told r x (number z) h k = cc
listed_told r x (text s) h k = cc
listed_told r x (context es) h k = cc

among_by : (t : Truths) (lists : Bool) (p : Truth) (l : Bool) → tells t p ≡ true → (l ≡ true → lists ≡ true) → tells (record { yes = t.yes || lists; no = t.no || t.unknown; unknown = false }) (decided (is_yes p || l)) ≡ true
among_by t lists Yes l h k = or_left t.yes lists h
among_by t lists No true h k = or_right t.yes lists (k refl)
among_by t lists No false h k = or_left t.no t.unknown h
among_by t lists Unknown true h k = or_right t.yes lists (k refl)
among_by t lists Unknown false h k = or_right t.no t.unknown h

among_told : (v r : Range) (x d : Datum) → lies_in v x ≡ true → lies_in r d ≡ true → tells (among v r) (decided (is_in x d)) ≡ true
among_told v r x d h k = among_by (equal_truths v r) r.lists (equal x d) (is_listed x d) (equal_told v r x d h k) (listed_told r x d k)

-- ---- a test

test_told : (t : Test) (v : Range) (xs : Scope) (m : Bindings) (x : Datum) → Fits xs m → lies_in v x ≡ true → answers (test_answers v xs t) (tested t x m) ≡ true
test_told (Compares b e) v xs m x h k = answered_told (outcomes e xs) (den e m) (stands b v) (stands_to b x) (sound e xs m h) (λ d l. stands_told b v (outcomes e xs).range x d k l)
test_told (Interval cl low high ch) v xs m x h k =
    both_told and_truths and_of (λ a b p q i j. and_told a b p q i j)
    (answered (outcomes low xs) (stands (low_bound cl) v)) (answered (outcomes high xs) (stands (high_bound ch) v))
    (answer (den low m) (stands_to (low_bound cl) x)) (answer (den high m) (stands_to (high_bound ch) x))
    (answered_told (outcomes low xs) (den low m) (stands (low_bound cl) v) (stands_to (low_bound cl) x) (sound low xs m h) (λ d l. stands_told (low_bound cl) v (outcomes low xs).range x d k l))
    (answered_told (outcomes high xs) (den high m) (stands (high_bound ch) v) (stands_to (high_bound ch) x) (sound high xs m h) (λ d l. stands_told (high_bound ch) v (outcomes high xs).range x d k l))
test_told (Equals e) v xs m x h k = answered_told (outcomes e xs) (den e m) (among v) (λ d. decided (is_in x d)) (sound e xs m h) (λ d l. among_told v (outcomes e xs).range x d k l)

-- ---- one of several tests

or_assoc : (p q r : Truth) → or_of (or_of p q) r ≡ or_of p (or_of q r)
or_assoc Yes q r = refl
or_assoc No Yes r = refl
or_assoc No No Yes = refl
or_assoc No No No = refl
or_assoc No No Unknown = refl
or_assoc No Unknown Yes = refl
or_assoc No Unknown No = refl
or_assoc No Unknown Unknown = refl
or_assoc Unknown Yes r = refl
or_assoc Unknown No Yes = refl
or_assoc Unknown No No = refl
or_assoc Unknown No Unknown = refl
or_assoc Unknown Unknown Yes = refl
or_assoc Unknown Unknown No = refl
or_assoc Unknown Unknown Unknown = refl

answers_assoc : (p q r : Answer) → joined or_of (joined or_of p q) r ≡ joined or_of p (joined or_of q r)
answers_assoc Broken q r = refl
answers_assoc (Told s) Broken r = refl
answers_assoc (Told s) (Told t) Broken = refl
answers_assoc (Told s) (Told t) (Told u) = ap Told (or_assoc s t u)

or_no : (p : Answer) → p ≡ joined or_of p (Told No)
or_no Broken = refl
or_no (Told Yes) = refl
or_no (Told No) = refl
or_no (Told Unknown) = refl

no_or : (p : Answer) → joined or_of (Told No) p ≡ p
no_or Broken = refl
no_or (Told Yes) = refl
no_or (Told No) = refl
no_or (Told Unknown) = refl

answers_along : (a : Answers) (p q : Answer) → p ≡ q → answers a p ≡ true → answers a q ≡ true
answers_along a p q e h = let P : Answer → Type 0 = λ r. answers a r ≡ true in subst P e h

any_told : (ts : List Test) (v : Range) (xs : Scope) (m : Bindings) (x : Datum) → Fits xs m → lies_in v x ≡ true → (a : Answers) (p : Answer) → answers a p ≡ true
    → answers (fold (or_test v xs) a ts) (joined or_of p (tested_any ts x m)) ≡ true
any_told [] v xs m x h k a p l = answers_along a p (joined or_of p (Told No)) (or_no p) l
any_told (t ∷ ts) v xs m x h k a p l =
    answers_along (fold (or_test v xs) (or_test v xs a t) ts) (joined or_of (joined or_of p (tested t x m)) (tested_any ts x m)) (joined or_of p (joined or_of (tested t x m) (tested_any ts x m)))
    (answers_assoc p (tested t x m) (tested_any ts x m))
    (any_told ts v xs m x h k (or_test v xs a t) (joined or_of p (tested t x m))
    (both_told or_truths or_of (λ b c q r i j. or_told b c q r i j) a (test_answers v xs t) p (tested t x m) l (test_told t v xs m x h k)))

some_told : (ts : List Test) (v : Range) (xs : Scope) (m : Bindings) (x : Datum) → Fits xs m → lies_in v x ≡ true → answers (any_answers v xs ts) (tested_any ts x m) ≡ true
some_told ts v xs m x h k = answers_along (any_answers v xs ts) (joined or_of (Told No) (tested_any ts x m)) (tested_any ts x m) (no_or (tested_any ts x m)) (any_told ts v xs m x h k never (Told No) refl)

opposite_answers_told : (a : Answers) (p : Answer) → answers a p ≡ true → answers (opposite_answers a) (opposite_answer p) ≡ true
opposite_answers_told a (Told t) h = opposite_told a.truth t h
opposite_answers_told a Broken h = h

pub entry_told : (t : Tests) (v : Range) (xs : Scope) (m : Bindings) (x : Datum) → Fits xs m → lies_in v x ≡ true → answers (entry_answers v xs t) (satisfied t x m) ≡ true
entry_told Any v xs m x h k = refl
entry_told (OneOf ts) v xs m x h k = some_told ts v xs m x h k
entry_told (NoneOf ts) v xs m x h k = opposite_answers_told (any_answers v xs ts) (tested_any ts x m) (some_told ts v xs m x h k)
