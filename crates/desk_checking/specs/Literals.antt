-- Internal, cited by no public contract: what is known of single output entries.
use Rattle.std.specs.Prelude.{◌≡◌, Bool, not, Option, None, Some}
use Rattle.feel_value.specs.Comparison.{equal}
use Rattle.feel_value.specs.Datum.{Datum}
use Rattle.feel_value.specs.Logic.{is_yes}
use Rattle.feel_value.specs.declared.feel.Outcome.TheVariants.{Is}
use Rattle.feel_text.specs.Expr.{Expr}
use Rattle.feel_text.specs.Meaning.{Bindings, den}
use Rattle.desk_checking.specs.Outputs.{AreEqual}

-- an expression has this value, whatever the names stand for
abbrev pub HasValue : Expr → Datum → Type 0
HasValue e v = (m : Bindings) → den e m ≡ Is v

-- whether an expression has another value than this one, where it has one whatever the names stand for
abbrev pub TellsLiteral : Datum → Expr → Option Bool → Type 0
TellsLiteral v e None = Unit {0}
TellsLiteral v e (Some differs) = (w : Datum) × HasValue e w × (differs ≡ not (is_yes (equal v w)))

-- whether two expressions have other values, where they have
abbrev pub TellsPair : Expr → Expr → Option Bool → Type 0
TellsPair e f None = Unit {0}
TellsPair e f (Some differs) = AreEqual e f (not differs)
