-- Which values a domain has: what the contract of a domain's range speaks of.
use Rattle.std.specs.Prelude.{Bool, false, []}
use Rattle.feel_value.specs.Datum.{Datum}
use Rattle.feel_value.specs.Logic.{is_yes}
use Rattle.feel_text.specs.Satisfied.{Answer, Told, Broken, satisfied}
use Rattle.feel_text.specs.Tests.{Tests}

-- the answer is Yes
abbrev pub is_met : Answer → Bool
is_met (Told t) = is_yes t
is_met Broken = false

-- whether a value satisfies the tests, in which each name stands for null
abbrev pub meets : Tests → Datum → Bool
meets tests d = is_met (satisfied tests d [])
