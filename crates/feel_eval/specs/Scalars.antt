-- Internal: no public contract cites these words. Outcomes that are numbers or truth values.
use Rattle.std.specs.Prelude.{◌≡◌, true}
use Rattle.feel_value.specs.Datum.{number}
use Rattle.feel_value.specs.Limits.{in_range}
use Rattle.feel_value.specs.Logic.{truth_datum}
use Rattle.feel_value.specs.declared.logic.Truth.TheVariants.{Yes, No, Unknown}
use Rattle.feel_value.specs.declared.feel.Outcome.{Outcome}
use Rattle.feel_value.specs.declared.feel.Outcome.TheVariants.{Is}
use Rattle.feel_eval.specs.declared.scalar.Scalar.{Scalar}
use Rattle.feel_eval.specs.declared.scalar.Scalar.TheVariants as scalar

-- The outcome is this number, or this truth value. `Other` says nothing of it.
abbrev pub IsScalar : Scalar → Outcome → Type 0
IsScalar (scalar.Number n) o = (o ≡ Is (number n)) × (in_range n ≡ true)
IsScalar scalar.Yes o = o ≡ Is (truth_datum Yes)
IsScalar scalar.No o = o ≡ Is (truth_datum No)
IsScalar scalar.Unknown o = o ≡ Is (truth_datum Unknown)
IsScalar scalar.Other o = Unit {0}
