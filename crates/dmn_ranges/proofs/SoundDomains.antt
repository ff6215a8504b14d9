-- The values that satisfy unary tests lie in what is told of them.
use Rattle.std.proofs.Common.{◌≡◌, ◌∙◌, refl, sym, ap, subst, ℕ, ℤ, ◌-ℤ◌, ◌+ℤ◌, pos, Bool, true, false, not, ◌&&◌, ◌||◌, List, [], ◌∷◌, Option, None, Some, if◌then◌else◌, arith}
use Rattle.std.specs.Prelude.{int_le, int_lt, bytes_eq}
use Rattle.std.specs.List.{fold}
use Rattle.std.specs.Ordering.{int_cmp, is_eq}
use Rattle.std.proofs.lemmas.Int.{ints}
use Rattle.feel_value.specs.Comparison.{equal, less}
use Rattle.feel_value.specs.Datum.{Datum, null, boolean, number, text, list, context, Items, Entries}
use Rattle.feel_value.specs.Limits.{in_range, is_value}
use Rattle.feel_value.specs.Logic.{is_yes, and_of, or_of, not_of, decided}
use Rattle.feel_value.specs.declared.feel.Outcome.{Outcome}
use Rattle.feel_value.specs.declared.feel.Outcome.TheVariants.{Is, Limit}
use Rattle.feel_value.specs.declared.logic.Truth.{Truth}
use Rattle.feel_value.specs.declared.logic.Truth.TheVariants.{Yes, No, Unknown}
use Rattle.feel_text.proofs.Bindings.{same_text}
use Rattle.feel_text.specs.Meaning.{den, least, greatest}
use Rattle.feel_text.specs.Satisfied.{Answer, Told, Broken, answer, joined, stands_to, low_bound, high_bound, is_in, tested, tested_any, opposite_answer}
use Rattle.feel_text.specs.Tests.{Bound, Below, AtMost, Above, AtLeast, Test, Compares, Interval, Equals, Tests, Any, OneOf, NoneOf}
use Rattle.dmn_ranges.specs.Numbers.{least_number, most_number}
use Rattle.dmn_ranges.specs.Ranges.{Fits, inside, within, is_among, lies_in, covers}
use Rattle.dmn_ranges.specs.Steps.{nothing, anything, everything, outcomes, is_not_null}
use Rattle.dmn_ranges.specs.Domains.{is_met, meets}
use Rattle.dmn_ranges.specs.Texts.{is_some_text}
use Rattle.dmn_ranges.specs.Constraints.{standing, standing_if, shared, numbers_and_texts, compared_values, between_values, equal_values, alone, test_values, with_test, any_values, is_of_null, or_null, has_null, anything_but, domain_values}
use Rattle.dmn_ranges.specs.declared.interval.Interval as interval
use Rattle.dmn_ranges.specs.declared.outcomes.Outcomes.{Outcomes}
use Rattle.dmn_ranges.specs.declared.range.Range.{Range}
use Rattle.dmn_ranges.proofs.Equalities.{decided_yes, not_null_in}
use Rattle.dmn_ranges.proofs.FewTexts.{has_some, any_has, has_any}
use Rattle.dmn_ranges.proofs.Forms.{joined_one, joined_other}
use Rattle.dmn_ranges.proofs.Intervals.{le_same, le_trans, le_lt_le, low_of, high_of, number_in_all}
use Rattle.dmn_ranges.proofs.Joins.{or_left, or_right, and_both, or_cases, list_in, context_in}
use Rattle.dmn_ranges.proofs.Sizes.{any_keeps}
use Rattle.dmn_ranges.proofs.Sound.{sound}

no_answer : false ≡ true → ⊥
no_answer h = cc

-- ---- values

by_range : (t : Bool) → ((t && true) && true) ≡ true → t ≡ true
by_range true h = refl
by_range false h = cc

number_of : (z : ℤ) → is_value (number z) ≡ true → inside everything z ≡ true
number_of z h = number_in_all z (by_range (in_range z) h)

pub any_in : (x : Datum) → is_value x ≡ true → lies_in anything x ≡ true
any_in null h = refl
any_in (boolean true) h = refl
any_in (boolean false) h = refl
any_in (number z) h = number_of z h
any_in (text s) h = refl
any_in (list ds) h = any_keeps (list ds) h
any_in (context es) h = any_keeps (context es) h

-- ---- comparisons

not_decided : (t : Bool) → not_of (decided t) ≡ Yes → t ≡ false
not_decided true h = cc
not_decided false h = refl

within_if : (t : Bool) (i : interval.Interval) (x : ℤ) → t ≡ true → int_le i.low x ≡ true → int_le x i.high ≡ true → within (if t then Some i else None) x ≡ true
within_if true i x e h k = and_both (int_le i.low x) (int_le x i.high) h k
within_if false i x e h k = cc

one_below : (x y z : ℤ) → int_lt x y ≡ true → int_le y z ≡ true → int_le x (z -ℤ pos 1) ≡ true
one_below x y z h k = grind (arith, ints)

one_above : (x y z : ℤ) → int_le x y ≡ true → int_lt y z ≡ true → int_le (x +ℤ pos 1) z ≡ true
one_above x y z h k = grind (arith, ints)

not_less : (x y : ℤ) → int_lt y x ≡ false → int_le x y ≡ true
not_less x y h = grind (arith, ints)

standing_in : (b : Bound) (i : interval.Interval) (x y : ℤ) → inside everything x ≡ true → inside i y ≡ true → stands_to b (number x) (number y) ≡ Yes → within (standing b i) x ≡ true
standing_in Below i x y v k l =
    let less_x : int_lt x y ≡ true = decided_yes (int_lt x y) l in
    let most : int_le y i.high ≡ true = high_of i y k in
    let least : int_le least_number x ≡ true = low_of everything x v in
    within_if (int_lt least_number i.high) (record { low = least_number; high = i.high -ℤ pos 1 }) x (le_lt_le least_number x y i.high least less_x most) least (one_below x y i.high less_x most)
standing_in AtMost i x y v k l =
    and_both (int_le least_number x) (int_le x i.high) (low_of everything x v) (le_trans x y i.high (not_less x y (not_decided (int_lt y x) l)) (high_of i y k))
standing_in Above i x y v k l =
    let more_x : int_lt y x ≡ true = decided_yes (int_lt y x) l in
    let least : int_le i.low y ≡ true = low_of i y k in
    let most : int_le x most_number ≡ true = high_of everything x v in
    within_if (int_lt i.low most_number) (record { low = i.low +ℤ pos 1; high = most_number }) x (le_lt_le i.low y x most_number least more_x most) (one_above i.low y x least more_x) most
standing_in AtLeast i x y v k l =
    and_both (int_le i.low x) (int_le x most_number) (le_trans i.low y x (low_of i y k) (not_less y x (not_decided (int_lt x y) l))) (high_of everything x v)

standing_in_if : (b : Bound) (o : Option interval.Interval) (x y : ℤ) → inside everything x ≡ true → within o y ≡ true → stands_to b (number x) (number y) ≡ Yes → within (standing_if b o) x ≡ true
standing_in_if b None x y v k l = cc
standing_in_if b (Some i) x y v k l = standing_in b i x y v k l

never : (b : Bound) (x d : Datum) → less x d ≡ Unknown → less d x ≡ Unknown → stands_to b x d ≡ Yes → ⊥
never Below x d p q l = cc
never AtMost x d p q l = let e : not_of (less d x) ≡ Unknown = ap not_of q in cc
never Above x d p q l = cc
never AtLeast x d p q l = let e : not_of (less x d) ≡ Unknown = ap not_of p in cc

no_less_null : (d : Datum) → less d null ≡ Unknown
no_less_null null = refl
no_less_null (boolean b) = refl
no_less_null (number z) = refl
no_less_null (text s) = refl
no_less_null (list fs) = refl
no_less_null (context gs) = refl

no_less_boolean : (c : Bool) (d : Datum) → less d (boolean c) ≡ Unknown
no_less_boolean c null = refl
no_less_boolean c (boolean b) = refl
no_less_boolean c (number z) = refl
no_less_boolean c (text s) = refl
no_less_boolean c (list fs) = refl
no_less_boolean c (context gs) = refl

no_less_list : (ds : Items) (d : Datum) → less d (list ds) ≡ Unknown
no_less_list ds null = refl
no_less_list ds (boolean b) = refl
no_less_list ds (number z) = refl
no_less_list ds (text s) = refl
no_less_list ds (list fs) = refl
no_less_list ds (context gs) = refl

no_less_context : (es : Entries) (d : Datum) → less d (context es) ≡ Unknown
no_less_context es null = refl
no_less_context es (boolean b) = refl
no_less_context es (number z) = refl
no_less_context es (text s) = refl
no_less_context es (list fs) = refl
no_less_context es (context gs) = refl

compared_in : (b : Bound) (r : Range) (x d : Datum) → is_value x ≡ true → lies_in r d ≡ true → stands_to b x d ≡ Yes → lies_in (compared_values b r) x ≡ true
compared_in b r (number x) (number y) v k l = standing_in_if b r.numbers x y (number_of x v) k l
compared_in b r (text s) (text t) v k l = any_has (is_some_text r.texts) s (has_some r.texts t k)
compared_in b r (number x) d v k l = absurd (never b (number x) d refl refl l)
compared_in b r (text s) d v k l = absurd (never b (text s) d refl refl l)
compared_in b r null d v k l = absurd (never b null d refl (no_less_null d) l)
compared_in b r (boolean c) d v k l = absurd (never b (boolean c) d refl (no_less_boolean c d) l)
compared_in b r (list ds) d v k l = absurd (never b (list ds) d refl (no_less_list ds d) l)
compared_in b r (context es) d v k l = absurd (never b (context es) d refl (no_less_context es d) l)

greatest_by : (t : Bool) (a b x : ℤ) → int_le a x ≡ true → int_le b x ≡ true → int_le (if t then b else a) x ≡ true
greatest_by true a b x h k = k
greatest_by false a b x h k = h

greatest_below : (a b x : ℤ) → int_le a x ≡ true → int_le b x ≡ true → int_le (greatest a b) x ≡ true
greatest_below a b x h k = greatest_by (int_lt a b) a b x h k

least_by : (t : Bool) (a b x : ℤ) → int_le x a ≡ true → int_le x b ≡ true → int_le x (if t then b else a) ≡ true
least_by true a b x h k = k
least_by false a b x h k = h

least_above : (a b x : ℤ) → int_le x a ≡ true → int_le x b ≡ true → int_le x (least a b) ≡ true
least_above a b x h k = least_by (int_lt b a) a b x h k

shared_ends : (i j : interval.Interval) (x : ℤ) → int_le i.low x ≡ true → int_le x i.high ≡ true → int_le j.low x ≡ true → int_le x j.high ≡ true → within (shared (Some i) (Some j)) x ≡ true
shared_ends i j x a b c d =
    let low : int_le (greatest i.low j.low) x ≡ true = greatest_below i.low j.low x a c in
    let high : int_le x (least i.high j.high) ≡ true = least_above i.high j.high x b d in
    within_if (int_le (greatest i.low j.low) (least i.high j.high)) (record { low = greatest i.low j.low; high = least i.high j.high }) x (le_trans (greatest i.low j.low) x (least i.high j.high) low high) low high

shared_in : (o p : Option interval.Interval) (x : ℤ) → within o x ≡ true → within p x ≡ true → within (shared o p) x ≡ true
shared_in None p x h k = cc
shared_in (Some i) None x h k = cc
shared_in (Some i) (Some j) x h k = shared_ends i j x (low_of i x h) (high_of i x h) (low_of j x k) (high_of j x k)

both_in : (o p : Option interval.Interval) (s t : Bool) (x : Datum) → lies_in (numbers_and_texts o s) x ≡ true → lies_in (numbers_and_texts p t) x ≡ true → lies_in (numbers_and_texts (shared o p) (s && t)) x ≡ true
both_in o p s t null h k = h
both_in o p s t (boolean true) h k = h
both_in o p s t (boolean false) h k = h
both_in o p s t (number z) h k = shared_in o p z h k
both_in o p s t (text bytes) h k = any_has (s && t) bytes (and_both s t (has_any s bytes h) (has_any t bytes k))
both_in o p s t (list ds) h k = h
both_in o p s t (context es) h k = h

-- ---- equality

by_equal : (x y : ℤ) (t : Bool) → is_eq (int_cmp x y) ≡ t → (is_yes (decided t) || false) ≡ true → x ≡ y
by_equal x y true e h = grind (arith, ints)
by_equal x y false e h = absurd (no_answer h)

same_number : (x y : ℤ) → (is_yes (decided (is_eq (int_cmp x y))) || false) ≡ true → x ≡ y
same_number x y h = by_equal x y (is_eq (int_cmp x y)) refl h

by_bytes : (s t : List ℕ) (b : Bool) → bytes_eq s t ≡ b → (is_yes (decided b) || false) ≡ true → s ≡ t
by_bytes s t true e h = same_text s t e
by_bytes s t false e h = absurd (no_answer h)

same_bytes : (s t : List ℕ) → (is_yes (decided (bytes_eq s t)) || false) ≡ true → s ≡ t
same_bytes s t h = by_bytes s t (bytes_eq s t) refl h

equal_by : (t : Bool) (r : Range) (x d : Datum) → (r.lists || r.contexts) ≡ t → is_value x ≡ true → lies_in r d ≡ true → is_in x d ≡ true → lies_in (if t then anything else r) x ≡ true
equal_by true r x d e v k i = any_in x v
equal_by false r x (list ds) e v k i = let some : (r.lists || r.contexts) ≡ true = or_left r.lists r.contexts (list_in r ds k) in cc
equal_by false r x (context es) e v k i = let some : (r.lists || r.contexts) ≡ true = or_right r.lists r.contexts (context_in r es k) in cc
equal_by false r null null e v k i = k
equal_by false r (boolean true) (boolean true) e v k i = k
equal_by false r (boolean false) (boolean false) e v k i = k
equal_by false r (number x) (number y) e v k i = let P : ℤ → Type 0 = λ z. within r.numbers z ≡ true in subst P (sym (same_number x y i)) k
equal_by false r (text s) (text t) e v k i = let P : List ℕ → Type 0 = λ u. is_among r.texts u ≡ true in subst P (sym (same_bytes s t i)) k
equal_by false r x d e v k i = cc

-- ---- answers

yes_of : (t : Truth) → is_yes t ≡ true → t ≡ Yes
yes_of Yes h = refl
yes_of No h = cc
yes_of Unknown h = cc

answer_met : {P : Type 0} (o : Outcomes) (p : Outcome) (f : Datum → Truth) → covers o p ≡ true → is_met (answer p f) ≡ true → ((d : Datum) → lies_in o.range d ≡ true → f d ≡ Yes → P) → P
answer_met o (Is d) f h k on = on d h (yes_of (f d) k)
answer_met o Limit f h k on = absurd (no_answer k)

both_yes : (s t : Truth) → is_yes (and_of s t) ≡ true → (is_yes s ≡ true) × (is_yes t ≡ true)
both_yes Yes Yes h = (refl, refl)
both_yes Yes No h = absurd (no_answer h)
both_yes Yes Unknown h = absurd (no_answer h)
both_yes No t h = absurd (no_answer h)
both_yes Unknown Yes h = absurd (no_answer h)
both_yes Unknown No h = absurd (no_answer h)
both_yes Unknown Unknown h = absurd (no_answer h)

both_met : (p q : Answer) → is_met (joined and_of p q) ≡ true → (is_met p ≡ true) × (is_met q ≡ true)
both_met (Told s) (Told t) h = both_yes s t h
both_met (Told s) Broken h = absurd (no_answer h)
both_met Broken q h = absurd (no_answer h)

some_yes : (s t : Truth) → is_yes (or_of s t) ≡ true → (is_yes s || is_yes t) ≡ true
some_yes Yes t h = refl
some_yes No Yes h = refl
some_yes No No h = h
some_yes No Unknown h = h
some_yes Unknown Yes h = refl
some_yes Unknown No h = h
some_yes Unknown Unknown h = h

some_met : (p q : Answer) → is_met (joined or_of p q) ≡ true → (is_met p || is_met q) ≡ true
some_met (Told s) (Told t) h = some_yes s t h
some_met (Told s) Broken h = absurd (no_answer h)
some_met Broken q h = absurd (no_answer h)

none_yes : (s t : Truth) → is_yes (not_of (or_of s t)) ≡ true → (is_yes (not_of s) ≡ true) × (is_yes (not_of t) ≡ true)
none_yes No No h = (refl, refl)
none_yes No Yes h = absurd (no_answer h)
none_yes No Unknown h = absurd (no_answer h)
none_yes Yes t h = absurd (no_answer h)
none_yes Unknown Yes h = absurd (no_answer h)
none_yes Unknown No h = absurd (no_answer h)
none_yes Unknown Unknown h = absurd (no_answer h)

none_met : (p q : Answer) → is_met (opposite_answer (joined or_of p q)) ≡ true → (is_met (opposite_answer p) ≡ true) × (is_met (opposite_answer q) ≡ true)
none_met (Told s) (Told t) h = none_yes s t h
none_met (Told s) Broken h = absurd (no_answer h)
none_met Broken q h = absurd (no_answer h)

-- ---- a test

unnamed : Fits [] []
unnamed name = refl

test_in : (t : Test) (x : Datum) → is_value x ≡ true → is_met (tested t x []) ≡ true → lies_in (test_values t) x ≡ true
test_in (Compares b e) x v h = answer_met (outcomes e []) (den e []) (stands_to b x) (sound e [] [] unnamed) h (λ d k l. compared_in b (alone e) x d v k l)
test_in (Interval cl low high ch) x v h =
    let ends = both_met (answer (den low []) (stands_to (low_bound cl) x)) (answer (den high []) (stands_to (high_bound ch) x)) h in
    both_in (standing_if (low_bound cl) (alone low).numbers) (standing_if (high_bound ch) (alone high).numbers) (is_some_text (alone low).texts) (is_some_text (alone high).texts) x
    (answer_met (outcomes low []) (den low []) (stands_to (low_bound cl) x) (sound low [] [] unnamed) ends.0 (λ d k l. compared_in (low_bound cl) (alone low) x d v k l))
    (answer_met (outcomes high []) (den high []) (stands_to (high_bound ch) x) (sound high [] [] unnamed) ends.1 (λ d k l. compared_in (high_bound ch) (alone high) x d v k l))
test_in (Equals e) x v h =
    answer_met (outcomes e []) (den e []) (λ d. decided (is_in x d)) (sound e [] [] unnamed) h
    (λ d k l. equal_by ((alone e).lists || (alone e).contexts) (alone e) x d refl v k (decided_yes (is_in x d) l))

-- ---- several tests

fold_keeps : (ts : List Test) (r : Range) (x : Datum) → lies_in r x ≡ true → lies_in (fold with_test r ts) x ≡ true
fold_keeps [] r x h = h
fold_keeps (t ∷ ts) r x h = fold_keeps ts (with_test r t) x (joined_one r (test_values t) x h)

fold_meets : (ts : List Test) (r : Range) (x : Datum) → is_value x ≡ true → is_met (tested_any ts x []) ≡ true → lies_in (fold with_test r ts) x ≡ true
fold_meets [] r x v h = absurd (no_answer h)
fold_meets (t ∷ ts) r x v h =
    or_cases (is_met (tested t x [])) (is_met (tested_any ts x [])) (some_met (tested t x []) (tested_any ts x []) h)
    (λ k. fold_keeps ts (with_test r t) x (joined_other r (test_values t) x (test_in t x v k)))
    (λ k. fold_meets ts (with_test r t) x v k)

-- ---- null

null_by : (o : Outcomes) (p : Outcome) → covers o p ≡ true → is_met (opposite_answer (answer p (λ d. decided (is_in null d)))) ≡ true → not (is_not_null o.range) ≡ false
null_by o (Is null) h k = absurd (no_answer k)
null_by o (Is d) h k = ap not (not_null_in o.range d h refl)
null_by o Limit h k = absurd (no_answer k)

not_of_null : (t : Test) → is_met (opposite_answer (tested t null [])) ≡ true → is_of_null t ≡ false
not_of_null (Compares b e) h = refl
not_of_null (Interval cl low high ch) h = refl
not_of_null (Equals e) h = null_by (outcomes e []) (den e []) (sound e [] [] unnamed) h

neither : (a b : Bool) → a ≡ false → b ≡ false → (a || b) ≡ false
neither true b h k = h
neither false b h k = k

none_of_null : (ts : List Test) (b : Bool) → b ≡ false → is_met (opposite_answer (tested_any ts null [])) ≡ true → fold or_null b ts ≡ false
none_of_null [] b e h = e
none_of_null (t ∷ ts) b e h =
    let parts = none_met (tested t null []) (tested_any ts null []) h in
    none_of_null ts (or_null b t) (neither b (is_of_null t) e (not_of_null t parts.0)) parts.1

none_in : (ts : List Test) (x : Datum) → is_value x ≡ true → is_met (opposite_answer (tested_any ts x [])) ≡ true → lies_in (anything_but (has_null ts)) x ≡ true
none_in ts null v h = ap not (none_of_null ts false refl h)
none_in ts (boolean true) v h = refl
none_in ts (boolean false) v h = refl
none_in ts (number z) v h = number_of z v
none_in ts (text s) v h = refl
none_in ts (list ds) v h = any_keeps (list ds) v
none_in ts (context es) v h = any_keeps (context es) v

pub domain_sound : (t : Tests) (d : Datum) → is_value d ≡ true → meets t d ≡ true → lies_in (domain_values t) d ≡ true
domain_sound Any d v h = any_in d v
domain_sound (OneOf ts) d v h = fold_meets ts nothing d v h
domain_sound (NoneOf ts) d v h = none_in ts d v h
