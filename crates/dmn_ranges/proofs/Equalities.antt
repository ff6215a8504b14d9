-- Values that are equal, or that differ, and what that says of their ranges.
use Rattle.std.proofs.Common.{◌≡◌, refl, ℤ, Bool, true, false, ◌&&◌, ◌||◌, Option, arith}
use Rattle.std.specs.Prelude.{int_lt, is_some, bytes_eq}
use Rattle.std.specs.Ordering.{int_cmp, is_eq}
use Rattle.std.proofs.lemmas.Int.{ints}
use Rattle.feel_value.specs.Comparison.{equal}
use Rattle.feel_value.specs.Datum.{Datum, null, boolean, number, text, list, context}
use Rattle.feel_value.specs.Logic.{decided}
use Rattle.feel_value.specs.declared.logic.Truth.TheVariants.{Yes, No}
use Rattle.dmn_ranges.specs.Numbers.{are_less, reach}
use Rattle.dmn_ranges.specs.Ranges.{within, lies_in}
use Rattle.dmn_ranges.specs.Steps.{is_not_null, can_equal, can_differ}
use Rattle.dmn_ranges.specs.Texts.{is_some_text, meet, differ}
use Rattle.dmn_ranges.specs.declared.interval.Interval.{Interval}
use Rattle.dmn_ranges.specs.declared.range.Range.{Range}
use Rattle.dmn_ranges.proofs.FewTexts.{has_some, same_meet, others_differ}
use Rattle.dmn_ranges.proofs.Intervals.{less_in, reach_in}
use Rattle.dmn_ranges.proofs.Joins.{or_left, or_right, and_both, some_within, list_in, context_in}

abbrev pub is_null : Datum → Bool
is_null null = true
is_null d = false

pub not_null_in : (r : Range) (d : Datum) → lies_in r d ≡ true → is_null d ≡ false → is_not_null r ≡ true
not_null_in r null h k = cc
not_null_in r (boolean true) h k = or_left _ _ (or_left r.trues r.falses h)
not_null_in r (boolean false) h k = or_left _ _ (or_right r.trues r.falses h)
not_null_in r (number z) h k = or_right (r.trues || r.falses) _ (or_left _ _ (some_within r.numbers z h))
not_null_in r (text s) h k = or_right (r.trues || r.falses) _ (or_right (is_some r.numbers) _ (or_left _ _ (has_some r.texts s h)))
not_null_in r (list ds) h k = or_right (r.trues || r.falses) _ (or_right (is_some r.numbers) _ (or_right (is_some_text r.texts) _ (or_left _ _ (list_in r ds h))))
not_null_in r (context es) h k = or_right (r.trues || r.falses) _ (or_right (is_some r.numbers) _ (or_right (is_some_text r.texts) _ (or_right r.lists _ (context_in r es h))))

pub decided_yes : (t : Bool) → decided t ≡ Yes → t ≡ true
decided_yes true h = refl
decided_yes false h = cc

decided_no : (t : Bool) → decided t ≡ No → t ≡ false
decided_no true h = cc
decided_no false h = refl

-- ---- numbers

same_not_less : (x y : ℤ) → is_eq (int_cmp x y) ≡ true → int_lt x y ≡ false
same_not_less x y h = grind (arith, ints)

same_not_more : (x y : ℤ) → is_eq (int_cmp x y) ≡ true → int_lt y x ≡ false
same_not_more x y h = grind (arith, ints)

other_is_more : (x y : ℤ) → is_eq (int_cmp x y) ≡ false → int_lt x y ≡ false → int_lt y x ≡ true
other_is_more x y h k = grind (arith, ints)

same_numbers : (o p : Option Interval) (x y : ℤ) → within o x ≡ true → within p y ≡ true → is_eq (int_cmp x y) ≡ true → (reach o p && reach p o) ≡ true
same_numbers o p x y h k e = and_both (reach o p) (reach p o) (reach_in o p x y h k (same_not_less x y e)) (reach_in p o y x k h (same_not_more x y e))

other_numbers_by : (o p : Option Interval) (x y : ℤ) (t : Bool) → int_lt x y ≡ t → within o x ≡ true → within p y ≡ true → is_eq (int_cmp x y) ≡ false → (are_less o p || are_less p o) ≡ true
other_numbers_by o p x y true l h k e = or_left (are_less o p) (are_less p o) (less_in o p x y h k l)
other_numbers_by o p x y false l h k e = or_right (are_less o p) (are_less p o) (less_in p o y x k h (other_is_more x y e l))

other_numbers : (o p : Option Interval) (x y : ℤ) → within o x ≡ true → within p y ≡ true → is_eq (int_cmp x y) ≡ false → (are_less o p || are_less p o) ≡ true
other_numbers o p x y h k e = other_numbers_by o p x y (int_lt x y) refl h k e

-- ---- equal

abbrev plain_equal : Range → Range → Bool
plain_equal a b = (a.nulls && b.nulls) || ((a.trues && b.trues) || (a.falses && b.falses))

-- this is said of texts, or both have lists or contexts
abbrev kinds_shared : Bool → Range → Range → Bool
kinds_shared t a b = t || ((a.lists && b.lists) || (a.contexts && b.contexts))

abbrev numbers_meet : Range → Range → Bool
numbers_meet a b = reach a.numbers b.numbers && reach b.numbers a.numbers

abbrev numbers_part : Range → Range → Bool
numbers_part a b = are_less a.numbers b.numbers || are_less b.numbers a.numbers

abbrev plain_differ : Range → Range → Bool
plain_differ a b = ((a.nulls && is_not_null b) || (b.nulls && is_not_null a)) || ((a.trues && b.falses) || (a.falses && b.trues))

texts_shared : (t : Bool) (a b : Range) → t ≡ true → kinds_shared t a b ≡ true
texts_shared t a b h = or_left t _ h

lists_shared : (t : Bool) (a b : Range) → a.lists ≡ true → b.lists ≡ true → kinds_shared t a b ≡ true
lists_shared t a b h k = or_right t _ (or_left (a.lists && b.lists) _ (and_both a.lists b.lists h k))

contexts_shared : (t : Bool) (a b : Range) → a.contexts ≡ true → b.contexts ≡ true → kinds_shared t a b ≡ true
contexts_shared t a b h k = or_right t _ (or_right (a.lists && b.lists) _ (and_both a.contexts b.contexts h k))

pub yes_told : (a b : Range) (d e : Datum) → lies_in a d ≡ true → lies_in b e ≡ true → equal d e ≡ Yes → can_equal a b ≡ true
yes_told a b null null h k q = or_left (plain_equal a b) _ (or_left (a.nulls && b.nulls) _ (and_both a.nulls b.nulls h k))
yes_told a b (boolean true) (boolean true) h k q = or_left (plain_equal a b) _ (or_right (a.nulls && b.nulls) _ (or_left (a.trues && b.trues) _ (and_both a.trues b.trues h k)))
yes_told a b (boolean false) (boolean false) h k q = or_left (plain_equal a b) _ (or_right (a.nulls && b.nulls) _ (or_right (a.trues && b.trues) _ (and_both a.falses b.falses h k)))
yes_told a b (number x) (number y) h k q = or_right (plain_equal a b) _ (or_left (numbers_meet a b) _ (same_numbers a.numbers b.numbers x y h k (decided_yes (is_eq (int_cmp x y)) q)))
yes_told a b (text s) (text t) h k q = or_right (plain_equal a b) _ (or_right (numbers_meet a b) _ (texts_shared (meet a.texts b.texts) a b (same_meet a.texts b.texts s t h k (decided_yes (bytes_eq s t) q))))
yes_told a b (list ds) (list es) h k q = or_right (plain_equal a b) _ (or_right (numbers_meet a b) _ (lists_shared (meet a.texts b.texts) a b (list_in a ds h) (list_in b es k)))
yes_told a b (context ds) (context es) h k q = or_right (plain_equal a b) _ (or_right (numbers_meet a b) _ (contexts_shared (meet a.texts b.texts) a b (context_in a ds h) (context_in b es k)))
yes_told a b d e h k q = cc

first_null : (a b : Range) (e : Datum) → a.nulls ≡ true → lies_in b e ≡ true → is_null e ≡ false → can_differ a b ≡ true
first_null a b e h k n =
    or_left (plain_differ a b) _ (or_left ((a.nulls && is_not_null b) || (b.nulls && is_not_null a)) _ (or_left (a.nulls && is_not_null b) _ (and_both a.nulls (is_not_null b) h (not_null_in b e k n))))

second_null : (a b : Range) (d : Datum) → lies_in a d ≡ true → b.nulls ≡ true → is_null d ≡ false → can_differ a b ≡ true
second_null a b d h k n =
    or_left (plain_differ a b) _ (or_left ((a.nulls && is_not_null b) || (b.nulls && is_not_null a)) _ (or_right (a.nulls && is_not_null b) _ (and_both b.nulls (is_not_null a) k (not_null_in a d h n))))

pub no_told : (a b : Range) (d e : Datum) → lies_in a d ≡ true → lies_in b e ≡ true → equal d e ≡ No → can_differ a b ≡ true
no_told a b null null h k q = cc
no_told a b null e h k q = first_null a b e h k refl
no_told a b d null h k q = second_null a b d h k refl
no_told a b (boolean true) (boolean false) h k q =
    or_left (plain_differ a b) _ (or_right ((a.nulls && is_not_null b) || (b.nulls && is_not_null a)) _ (or_left (a.trues && b.falses) _ (and_both a.trues b.falses h k)))
no_told a b (boolean false) (boolean true) h k q =
    or_left (plain_differ a b) _ (or_right ((a.nulls && is_not_null b) || (b.nulls && is_not_null a)) _ (or_right (a.trues && b.falses) _ (and_both a.falses b.trues h k)))
no_told a b (number x) (number y) h k q = or_right (plain_differ a b) _ (or_left (numbers_part a b) _ (other_numbers a.numbers b.numbers x y h k (decided_no (is_eq (int_cmp x y)) q)))
no_told a b (text s) (text t) h k q = or_right (plain_differ a b) _ (or_right (numbers_part a b) _ (texts_shared (differ a.texts b.texts) a b (others_differ a.texts b.texts s t h k (decided_no (bytes_eq s t) q))))
no_told a b (list ds) (list es) h k q = or_right (plain_differ a b) _ (or_right (numbers_part a b) _ (lists_shared (differ a.texts b.texts) a b (list_in a ds h) (list_in b es k)))
no_told a b (context ds) (context es) h k q = or_right (plain_differ a b) _ (or_right (numbers_part a b) _ (contexts_shared (differ a.texts b.texts) a b (context_in a ds h) (context_in b es k)))
no_told a b d e h k q = cc
