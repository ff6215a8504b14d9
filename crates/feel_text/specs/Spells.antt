-- What a whole text spells. A text spells at most one expression, one unary test and one literal.
use Rattle.std.specs.Prelude.{ℕ, List}
use Rattle.feel_text.specs.Token.{Token}
use Rattle.feel_text.specs.Expr.{Expr}
use Rattle.feel_text.specs.Lexical.{IsCut}
use Rattle.feel_text.specs.Tests.{Tests, ReadsExpr, ReadsTests, ReadsLiteral}
use Rattle.feel_value.specs.Datum.{Datum}

abbrev pub Spells : List ℕ → Expr → Type 0
Spells text e = (tokens : List Token) × IsCut text tokens × ReadsExpr tokens e

abbrev pub SpellsTests : List ℕ → Tests → Type 0
SpellsTests text tests = (tokens : List Token) × IsCut text tokens × ReadsTests tokens tests

abbrev pub SpellsLiteral : List ℕ → Datum → Type 0
SpellsLiteral text d = (tokens : List Token) × IsCut text tokens × ReadsLiteral tokens d

-- some text spells it
pub record HasText (e : Expr) : Type 0 where
  pub text : List ℕ
  pub spells : Spells text e

pub record TestsHaveText (tests : Tests) : Type 0 where
  pub text : List ℕ
  pub spells : SpellsTests text tests
