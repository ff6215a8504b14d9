-- What a text spells, if anything: an expression, unary tests, a literal. Each function is tied to the grammar by a law for every
-- text (proofs/ReadingLaws.antt): `expr_of s ≡ Some e` exactly where `Spells s e`, and so for the other two. Above this crate only the laws count.
use Rattle.std.specs.Prelude.{ℕ, List, Option}
use Rattle.feel_text.specs.declared.line.Line.TheVariants as line
use Rattle.feel_text.specs.Token.{Token}
use Rattle.feel_text.specs.Expr.{Expr}
use Rattle.feel_text.specs.Tests.{Tests, most_depth}
use Rattle.feel_text.specs.Reading.{read_at}
use Rattle.feel_value.specs.Found.{◌>>=◌}
use Rattle.feel_text.specs.Scanning.{cut_of}
use Rattle.feel_text.specs.TestReading.{all_read, tests_at, literal_at}
use Rattle.feel_value.specs.Datum.{Datum}

-- the expression that all of the tokens spell
unfoldable pub expression_at : List Token → Option Expr
expression_at ts = do
  x ← read_at most_depth line.Whole ts
  all_read x.2 x.0

-- the expression that a text spells
unfoldable pub expr_of : List ℕ → Option Expr
expr_of text = cut_of text >>= expression_at

-- the unary tests that a text spells
unfoldable pub tests_of : List ℕ → Option Tests
tests_of text = cut_of text >>= tests_at

-- the literal that a text spells
unfoldable pub literal_of : List ℕ → Option Datum
literal_of text = cut_of text >>= literal_at
