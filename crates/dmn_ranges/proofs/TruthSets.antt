-- Logic on sets of truth values.
use Rattle.std.proofs.Common.{◌≡◌, Bool, true, false, ◌&&◌, ◌||◌}
use Rattle.feel_value.specs.Datum.{Datum, null, boolean, number, text, list, context}
use Rattle.feel_value.specs.Logic.{and_of, or_of, not_of, truth_of, truth_datum}
use Rattle.feel_value.specs.Outcome.{held}
use Rattle.feel_value.specs.declared.feel.Outcome.TheVariants.{Is}
use Rattle.feel_value.specs.declared.logic.Truth.{Truth}
use Rattle.feel_value.specs.declared.logic.Truth.TheVariants.{Yes, No, Unknown}
use Rattle.dmn_ranges.specs.Ranges.{lies_in, covers}
use Rattle.dmn_ranges.specs.Steps.{truths, opposite, and_truths, or_truths, told}
use Rattle.dmn_ranges.specs.Texts.{is_some_text}
use Rattle.dmn_ranges.specs.declared.range.Range.{Range}
use Rattle.dmn_ranges.specs.declared.truths.Truths.{Truths}
use Rattle.dmn_ranges.proofs.FewTexts.{has_some}
use Rattle.dmn_ranges.proofs.Joins.{or_left, or_right, and_both, some_within, list_in, context_in}

-- whether it is one of these
abbrev pub tells : Truths → Truth → Bool
tells a Yes = a.yes
tells a No = a.no
tells a Unknown = a.unknown

pub opposite_told : (a : Truths) (p : Truth) → tells a p ≡ true → tells (opposite a) (not_of p) ≡ true
opposite_told a Yes h = h
opposite_told a No h = h
opposite_told a Unknown h = h

pub and_told : (a b : Truths) (p q : Truth) → tells a p ≡ true → tells b q ≡ true → tells (and_truths a b) (and_of p q) ≡ true
and_told a b No q h k = or_left a.no b.no h
and_told a b Yes No h k = or_right a.no b.no k
and_told a b Unknown No h k = or_right a.no b.no k
and_told a b Yes Yes h k = and_both a.yes b.yes h k
and_told a b Yes Unknown h k = or_right (a.unknown && (b.yes || b.unknown)) (a.yes && b.unknown) (and_both a.yes b.unknown h k)
and_told a b Unknown Yes h k = or_left (a.unknown && (b.yes || b.unknown)) (a.yes && b.unknown) (and_both a.unknown (b.yes || b.unknown) h (or_left b.yes b.unknown k))
and_told a b Unknown Unknown h k = or_left (a.unknown && (b.yes || b.unknown)) (a.yes && b.unknown) (and_both a.unknown (b.yes || b.unknown) h (or_right b.yes b.unknown k))

pub or_told : (a b : Truths) (p q : Truth) → tells a p ≡ true → tells b q ≡ true → tells (or_truths a b) (or_of p q) ≡ true
or_told a b Yes q h k = or_left a.yes b.yes h
or_told a b No Yes h k = or_right a.yes b.yes k
or_told a b Unknown Yes h k = or_right a.yes b.yes k
or_told a b No No h k = and_both a.no b.no h k
or_told a b No Unknown h k = or_right (a.unknown && (b.no || b.unknown)) (a.no && b.unknown) (and_both a.no b.unknown h k)
or_told a b Unknown No h k = or_left (a.unknown && (b.no || b.unknown)) (a.no && b.unknown) (and_both a.unknown (b.no || b.unknown) h (or_left b.no b.unknown k))
or_told a b Unknown Unknown h k = or_left (a.unknown && (b.no || b.unknown)) (a.no && b.unknown) (and_both a.unknown (b.no || b.unknown) h (or_right b.no b.unknown k))

pub truth_told : (r : Range) (d : Datum) → lies_in r d ≡ true → tells (truths r) (truth_of d) ≡ true
truth_told r null h = or_left _ _ (or_left _ _ h)
truth_told r (boolean true) h = h
truth_told r (boolean false) h = h
truth_told r (number z) h = or_left _ _ (or_right r.nulls _ (some_within r.numbers z h))
truth_told r (text s) h = or_right _ _ (or_left _ _ (has_some r.texts s h))
truth_told r (list ds) h = or_right _ _ (or_right (is_some_text r.texts) _ (or_left _ _ (list_in r ds h)))
truth_told r (context es) h = or_right _ _ (or_right (is_some_text r.texts) _ (or_right r.lists _ (context_in r es h)))

-- as values
pub told_is : (a : Truths) (p : Truth) → tells a p ≡ true → covers (told a) (Is (truth_datum p)) ≡ true
told_is a Yes h = h
told_is a No h = h
told_is a Unknown h = h

pub told_held : (a : Truths) (p : Truth) → tells a p ≡ true → covers (told a) (held (truth_datum p)) ≡ true
told_held a Yes h = h
told_held a No h = h
told_held a Unknown h = h
