-- Tests joined by "and" and "or", and what a value in a range says of the range.
use Rattle.std.proofs.Common.{◌≡◌, refl, ℤ, Bool, true, false, not, ◌&&◌, ◌||◌, Option, None, Some}
use Rattle.std.specs.Prelude.{is_some}
use Rattle.feel_value.proofs.Booleans.{both_true}
use Rattle.feel_value.specs.Datum.{Datum, null, boolean, number, text, list, context, Items, Entries}
use Rattle.dmn_ranges.specs.Ranges.{within, keeps, lies_in}
use Rattle.dmn_ranges.specs.Steps.{is_other, is_other_than_text, is_other_than_list}
use Rattle.dmn_ranges.specs.Texts.{is_some_text}
use Rattle.dmn_ranges.specs.declared.interval.Interval.{Interval}
use Rattle.dmn_ranges.specs.declared.range.Range.{Range}
use Rattle.dmn_ranges.proofs.FewTexts.{has_some}

pub or_left : (a b : Bool) → a ≡ true → (a || b) ≡ true
or_left true b h = refl
or_left false b h = cc

pub or_right : (a b : Bool) → b ≡ true → (a || b) ≡ true
or_right true b h = refl
or_right false b h = h

pub and_both : (a b : Bool) → a ≡ true → b ≡ true → (a && b) ≡ true
and_both true b h k = k
and_both false b h k = cc

pub or_cases : {P : Type 0} (a b : Bool) → (a || b) ≡ true → (a ≡ true → P) → (b ≡ true → P) → P
or_cases true b h f g = f refl
or_cases false b h f g = g h

pub not_cases : (a : Bool) → (a ≡ true → ⊥) → not a ≡ true
not_cases true h = absurd (h refl)
not_cases false h = refl

pub some_within : (o : Option Interval) (z : ℤ) → within o z ≡ true → is_some o ≡ true
some_within None z h = cc
some_within (Some i) z h = refl

abbrev pub is_number : Datum → Bool
is_number (number z) = true
is_number d = false

abbrev pub is_text : Datum → Bool
is_text (text s) = true
is_text d = false

pub list_in : (r : Range) (ds : Items) → lies_in r (list ds) ≡ true → r.lists ≡ true
list_in r ds h = (both_true r.lists (keeps r.size (list ds)) h).0

pub list_keeps : (r : Range) (ds : Items) → lies_in r (list ds) ≡ true → keeps r.size (list ds) ≡ true
list_keeps r ds h = (both_true r.lists (keeps r.size (list ds)) h).1

pub context_in : (r : Range) (es : Entries) → lies_in r (context es) ≡ true → r.contexts ≡ true
context_in r es h = (both_true r.contexts (keeps r.size (context es)) h).0

pub context_keeps : (r : Range) (es : Entries) → lies_in r (context es) ≡ true → keeps r.size (context es) ≡ true
context_keeps r es h = (both_true r.contexts (keeps r.size (context es)) h).1

-- a value that is no number
pub other_in : (r : Range) (d : Datum) → lies_in r d ≡ true → is_number d ≡ false → is_other r ≡ true
other_in r null h k = or_left _ _ (or_left _ _ h)
other_in r (boolean true) h k = or_left _ _ (or_right r.nulls _ (or_left _ _ h))
other_in r (boolean false) h k = or_left _ _ (or_right r.nulls _ (or_right r.trues _ h))
other_in r (number z) h k = cc
other_in r (text s) h k = or_right _ _ (or_left _ _ (has_some r.texts s h))
other_in r (list ds) h k = or_right _ _ (or_right (is_some_text r.texts) _ (or_left _ _ (list_in r ds h)))
other_in r (context es) h k = or_right _ _ (or_right (is_some_text r.texts) _ (or_right r.lists _ (context_in r es h)))

-- a value that is no text
pub no_text_in : (r : Range) (d : Datum) → lies_in r d ≡ true → is_text d ≡ false → is_other_than_text r ≡ true
no_text_in r null h k = or_left _ _ (or_left _ _ h)
no_text_in r (boolean true) h k = or_left _ _ (or_right r.nulls _ (or_left _ _ h))
no_text_in r (boolean false) h k = or_left _ _ (or_right r.nulls _ (or_right r.trues _ h))
no_text_in r (number z) h k = or_right _ _ (or_left _ _ (some_within r.numbers z h))
no_text_in r (text s) h k = cc
no_text_in r (list ds) h k = or_right _ _ (or_right (is_some r.numbers) _ (or_left _ _ (list_in r ds h)))
no_text_in r (context es) h k = or_right _ _ (or_right (is_some r.numbers) _ (or_right r.lists _ (context_in r es h)))

abbrev pub is_list : Datum → Bool
is_list (list ds) = true
is_list d = false

-- a value that is no list
pub no_list_in : (r : Range) (d : Datum) → lies_in r d ≡ true → is_list d ≡ false → is_other_than_list r ≡ true
no_list_in r null h k = or_left _ _ (or_left _ _ h)
no_list_in r (boolean true) h k = or_left _ _ (or_right r.nulls _ (or_left _ _ h))
no_list_in r (boolean false) h k = or_left _ _ (or_right r.nulls _ (or_right r.trues _ h))
no_list_in r (number z) h k = or_right _ _ (or_left _ _ (some_within r.numbers z h))
no_list_in r (text s) h k = or_right _ _ (or_right (is_some r.numbers) _ (or_left _ _ (has_some r.texts s h)))
no_list_in r (list ds) h k = cc
no_list_in r (context es) h k = or_right _ _ (or_right (is_some r.numbers) _ (or_right (is_some_text r.texts) _ (context_in r es h)))
