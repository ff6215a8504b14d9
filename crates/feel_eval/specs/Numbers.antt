-- Internal, cited by no public contract: numbers that are formed.
use Rattle.std.specs.Prelude.{ℤ, Option, Some, None}
use Rattle.feel_value.specs.Datum.{number}
use Rattle.feel_value.specs.Outcome.{held}
use Rattle.feel_value.specs.declared.feel.Outcome.{Outcome}
use Rattle.feel_value.specs.declared.feel.Outcome.TheVariants.{Limit}

-- a number held against the range; None stands for one that is past it
abbrev pub number_outcome : Option ℤ → Outcome
number_outcome None = Limit
number_outcome (Some z) = held (number z)
