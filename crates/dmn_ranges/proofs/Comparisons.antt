-- Comparisons of values that lie in ranges.
use Rattle.std.proofs.Common.{◌≡◌, refl, ℤ, Bool, true, false, not, ◌&&◌, ◌||◌, Option, None, Some}
use Rattle.std.specs.Prelude.{int_lt, is_some, bytes_eq, chars}
use Rattle.std.specs.Ordering.{nat_cmp, int_cmp, is_lt, is_eq}
use Rattle.std.specs.Cmp.Lexicographic.{slice_cmp}
use Rattle.feel_value.proofs.Booleans.{both_true}
use Rattle.feel_value.specs.Comparison.{equal, less, bool_eq}
use Rattle.feel_value.specs.Datum.{Datum, null, boolean, number, text, list, context}
use Rattle.feel_value.specs.Logic.{decided}
use Rattle.feel_value.specs.declared.logic.Truth.{Truth}
use Rattle.feel_value.specs.declared.logic.Truth.TheVariants.{Yes, No, Unknown}
use Rattle.dmn_ranges.specs.Numbers.{are_less, reach}
use Rattle.dmn_ranges.specs.Ranges.{within, lies_in}
use Rattle.dmn_ranges.specs.Steps.{is_other, is_other_than_text, less_truths, equal_truths, can_equal, can_differ, has_only, is_alike}
use Rattle.dmn_ranges.specs.Texts.{is_some_text}
use Rattle.dmn_ranges.specs.declared.interval.Interval.{Interval}
use Rattle.dmn_ranges.specs.declared.range.Range.{Range}
use Rattle.dmn_ranges.proofs.Equalities.{yes_told, no_told}
use Rattle.dmn_ranges.proofs.FewTexts.{has_some}
use Rattle.dmn_ranges.proofs.Intervals.{less_in, reach_in}
use Rattle.dmn_ranges.proofs.Joins.{or_left, or_right, and_both, list_in, context_in, or_cases, not_cases, is_number, is_text, other_in, no_text_in}
use Rattle.dmn_ranges.proofs.TruthSets.{tells}

-- ---- one of two values is no number, or no text

others_by : (a b : Range) (d e : Datum) (s t : Bool) → lies_in a d ≡ true → lies_in b e ≡ true → is_number d ≡ s → is_number e ≡ t → (s && t) ≡ false → (is_other a || is_other b) ≡ true
others_by a b d e true true h k p q r = cc
others_by a b d e true false h k p q r = or_right (is_other a) (is_other b) (other_in b e k q)
others_by a b d e false t h k p q r = or_left (is_other a) (is_other b) (other_in a d h p)

pub others : (a b : Range) (d e : Datum) → lies_in a d ≡ true → lies_in b e ≡ true → (is_number d && is_number e) ≡ false → (is_other a || is_other b) ≡ true
others a b d e h k r = others_by a b d e (is_number d) (is_number e) h k refl refl r

no_texts_by : (a b : Range) (d e : Datum) (s t : Bool) → lies_in a d ≡ true → lies_in b e ≡ true → is_text d ≡ s → is_text e ≡ t → (s && t) ≡ false → (is_other_than_text a || is_other_than_text b) ≡ true
no_texts_by a b d e true true h k p q r = cc
no_texts_by a b d e true false h k p q r = or_right (is_other_than_text a) (is_other_than_text b) (no_text_in b e k q)
no_texts_by a b d e false t h k p q r = or_left (is_other_than_text a) (is_other_than_text b) (no_text_in a d h p)

no_texts : (a b : Range) (d e : Datum) → lies_in a d ≡ true → lies_in b e ≡ true → (is_text d && is_text e) ≡ false → (is_other_than_text a || is_other_than_text b) ≡ true
no_texts a b d e h k r = no_texts_by a b d e (is_text d) (is_text e) h k refl refl r

-- ---- less

numbers_by : (a b : Range) (x y : ℤ) (t : Bool) → int_lt x y ≡ t → lies_in a (number x) ≡ true → lies_in b (number y) ≡ true → tells (less_truths a b) (decided t) ≡ true
numbers_by a b x y true l h k = or_left (are_less a.numbers b.numbers) (is_some_text a.texts && is_some_text b.texts) (less_in a.numbers b.numbers x y h k l)
numbers_by a b x y false l h k = or_left (reach a.numbers b.numbers) (is_some_text a.texts && is_some_text b.texts) (reach_in a.numbers b.numbers x y h k l)

texts_by : (a b : Range) (t : Bool) → is_some_text a.texts ≡ true → is_some_text b.texts ≡ true → tells (less_truths a b) (decided t) ≡ true
texts_by a b true h k = or_right (are_less a.numbers b.numbers) (is_some_text a.texts && is_some_text b.texts) (and_both (is_some_text a.texts) (is_some_text b.texts) h k)
texts_by a b false h k = or_right (reach a.numbers b.numbers) (is_some_text a.texts && is_some_text b.texts) (and_both (is_some_text a.texts) (is_some_text b.texts) h k)

unknown_told : (a b : Range) (d e : Datum) → lies_in a d ≡ true → lies_in b e ≡ true → (is_number d && is_number e) ≡ false → (is_text d && is_text e) ≡ false → tells (less_truths a b) Unknown ≡ true
unknown_told a b d e h k r s =
    and_both (is_other a || is_other b) (is_other_than_text a || is_other_than_text b) (others a b d e h k r) (no_texts a b d e h k s)

pub less_told : (a b : Range) (d e : Datum) → lies_in a d ≡ true → lies_in b e ≡ true → tells (less_truths a b) (less d e) ≡ true
less_told a b (number x) (number y) h k = numbers_by a b x y (int_lt x y) refl h k
less_told a b (text s) (text t) h k = texts_by a b (is_lt (slice_cmp nat_cmp (chars s) (chars t))) (has_some a.texts s h) (has_some b.texts t k)
less_told a b d e h k = unknown_told a b d e h k refl refl

-- ---- equal

-- the value is null, or of a kind for which this is said
abbrev is_kind : Bool → Bool → Bool → Datum → Bool
is_kind truths numbers texts null = true
is_kind truths numbers texts (boolean b) = truths
is_kind truths numbers texts (number z) = numbers
is_kind truths numbers texts (text s) = texts
is_kind truths numbers texts (list ds) = false
is_kind truths numbers texts (context es) = false

denied : (s t : Bool) → (s || not t) ≡ true → t ≡ true → s ≡ true
denied true t h k = refl
denied false true h k = cc
denied false false h k = cc

none_of : (s t : Bool) → not (s || t) ≡ true → (s ≡ true → ⊥) × (t ≡ true → ⊥)
none_of true t h = cc
none_of false true h = cc
none_of false false h = (λ k. cc, λ k. cc)

some_number : (o : Option Interval) (z : ℤ) → within o z ≡ true → is_some o ≡ true
some_number None z h = cc
some_number (Some i) z h = refl

kind_by : (a : Range) (truths numbers texts : Bool) (d : Datum) → (truths || not (a.trues || a.falses)) ≡ true → (numbers || not (is_some a.numbers)) ≡ true → (texts || not (is_some_text a.texts)) ≡ true → not (a.lists || a.contexts) ≡ true
    → lies_in a d ≡ true → is_kind truths numbers texts d ≡ true
kind_by a truths numbers texts null p q r s h = refl
kind_by a truths numbers texts (boolean true) p q r s h = denied truths (a.trues || a.falses) p (or_left a.trues a.falses h)
kind_by a truths numbers texts (boolean false) p q r s h = denied truths (a.trues || a.falses) p (or_right a.trues a.falses h)
kind_by a truths numbers texts (number z) p q r s h = denied numbers (is_some a.numbers) q (some_number a.numbers z h)
kind_by a truths numbers texts (text t) p q r s h = denied texts (is_some_text a.texts) r (has_some a.texts t h)
kind_by a truths numbers texts (list ds) p q r s h = absurd ((none_of a.lists a.contexts s).0 (list_in a ds h))
kind_by a truths numbers texts (context es) p q r s h = absurd ((none_of a.lists a.contexts s).1 (context_in a es h))

kind_of : (a : Range) (truths numbers texts : Bool) (d : Datum) → has_only a truths numbers texts ≡ true → lies_in a d ≡ true → is_kind truths numbers texts d ≡ true
kind_of a truths numbers texts d only h =
    let parts = both_true ((truths || not (a.trues || a.falses)) && (numbers || not (is_some a.numbers))) ((texts || not (is_some_text a.texts)) && not (a.lists || a.contexts)) only in
    let first = both_true (truths || not (a.trues || a.falses)) (numbers || not (is_some a.numbers)) parts.0 in
    let second = both_true (texts || not (is_some_text a.texts)) (not (a.lists || a.contexts)) parts.1 in
    kind_by a truths numbers texts d first.0 first.1 second.0 second.1 h

decided_known : (t : Bool) → decided t ≡ Unknown → ⊥
decided_known true h = cc
decided_known false h = cc

null_first : (d e : Datum) → is_kind false false false d ≡ true → equal d e ≡ Unknown → ⊥
null_first null null h u = cc
null_first null (boolean b) h u = cc
null_first null (number z) h u = cc
null_first null (text s) h u = cc
null_first null (list ds) h u = cc
null_first null (context es) h u = cc
null_first (boolean b) e h u = cc
null_first (number z) e h u = cc
null_first (text s) e h u = cc
null_first (list ds) e h u = cc
null_first (context es) e h u = cc

null_second : (d e : Datum) → is_kind false false false e ≡ true → equal d e ≡ Unknown → ⊥
null_second null null h u = cc
null_second (boolean b) null h u = cc
null_second (number z) null h u = cc
null_second (text s) null h u = cc
null_second (list ds) null h u = cc
null_second (context es) null h u = cc
null_second d (boolean b) h u = cc
null_second d (number z) h u = cc
null_second d (text s) h u = cc
null_second d (list ds) h u = cc
null_second d (context es) h u = cc

truths_known : (d e : Datum) → is_kind true false false d ≡ true → is_kind true false false e ≡ true → equal d e ≡ Unknown → ⊥
truths_known null e h k u = null_first null e refl u
truths_known (boolean b) null h k u = cc
truths_known (boolean b) (boolean c) h k u = decided_known (bool_eq b c) u
truths_known (boolean b) (number z) h k u = cc
truths_known (boolean b) (text s) h k u = cc
truths_known (boolean b) (list ds) h k u = cc
truths_known (boolean b) (context es) h k u = cc
truths_known (number z) e h k u = cc
truths_known (text s) e h k u = cc
truths_known (list ds) e h k u = cc
truths_known (context es) e h k u = cc

numbers_known : (d e : Datum) → is_kind false true false d ≡ true → is_kind false true false e ≡ true → equal d e ≡ Unknown → ⊥
numbers_known null e h k u = null_first null e refl u
numbers_known (number x) null h k u = cc
numbers_known (number x) (number y) h k u = decided_known (is_eq (int_cmp x y)) u
numbers_known (number x) (boolean b) h k u = cc
numbers_known (number x) (text s) h k u = cc
numbers_known (number x) (list ds) h k u = cc
numbers_known (number x) (context es) h k u = cc
numbers_known (boolean b) e h k u = cc
numbers_known (text s) e h k u = cc
numbers_known (list ds) e h k u = cc
numbers_known (context es) e h k u = cc

texts_known : (d e : Datum) → is_kind false false true d ≡ true → is_kind false false true e ≡ true → equal d e ≡ Unknown → ⊥
texts_known null e h k u = null_first null e refl u
texts_known (text s) null h k u = cc
texts_known (text s) (text t) h k u = decided_known (bytes_eq s t) u
texts_known (text s) (boolean b) h k u = cc
texts_known (text s) (number z) h k u = cc
texts_known (text s) (list ds) h k u = cc
texts_known (text s) (context es) h k u = cc
texts_known (boolean b) e h k u = cc
texts_known (number z) e h k u = cc
texts_known (list ds) e h k u = cc
texts_known (context es) e h k u = cc

kinds_of : (a b : Range) (truths numbers texts : Bool) (d e : Datum) → lies_in a d ≡ true → lies_in b e ≡ true → (has_only a truths numbers texts && has_only b truths numbers texts) ≡ true
    → (is_kind truths numbers texts d ≡ true) × (is_kind truths numbers texts e ≡ true)
kinds_of a b truths numbers texts d e h k both =
    let pair = both_true (has_only a truths numbers texts) (has_only b truths numbers texts) both in
    (kind_of a truths numbers texts d pair.0 h, kind_of b truths numbers texts e pair.1 k)

known : (a b : Range) (d e : Datum) → lies_in a d ≡ true → lies_in b e ≡ true → equal d e ≡ Unknown → is_alike a b ≡ true → ⊥
known a b d e h k u alike =
    or_cases (has_only a false false false || has_only b false false false) ((has_only a true false false && has_only b true false false) || ((has_only a false true false && has_only b false true false) || (has_only a false false true && has_only b false false true))) alike
    (λ some. or_cases (has_only a false false false) (has_only b false false false) some
    (λ p. null_first d e (kind_of a false false false d p h) u)
    (λ q. null_second d e (kind_of b false false false e q k) u))
    (λ some. or_cases (has_only a true false false && has_only b true false false) ((has_only a false true false && has_only b false true false) || (has_only a false false true && has_only b false false true)) some
    (λ both. let is = kinds_of a b true false false d e h k both in truths_known d e is.0 is.1 u)
    (λ more. or_cases (has_only a false true false && has_only b false true false) (has_only a false false true && has_only b false false true) more
    (λ both. let is = kinds_of a b false true false d e h k both in numbers_known d e is.0 is.1 u)
    (λ both. let is = kinds_of a b false false true d e h k both in texts_known d e is.0 is.1 u)))

equal_by : (a b : Range) (v : Truth) → (v ≡ Yes → can_equal a b ≡ true) → (v ≡ No → can_differ a b ≡ true) → (v ≡ Unknown → not (is_alike a b) ≡ true) → tells (equal_truths a b) v ≡ true
equal_by a b Yes f g h = f refl
equal_by a b No f g h = g refl
equal_by a b Unknown f g h = h refl

pub equal_told : (a b : Range) (d e : Datum) → lies_in a d ≡ true → lies_in b e ≡ true → tells (equal_truths a b) (equal d e) ≡ true
equal_told a b d e h k = equal_by a b (equal d e) (yes_told a b d e h k) (no_told a b d e h k) (λ u. not_cases (is_alike a b) (known a b d e h k u))
