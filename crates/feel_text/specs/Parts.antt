-- Internal: no public contract cites these words. Reading parts of a form.
use Rattle.std.specs.Prelude.{ℕ, Bool, ◌+◌, max, List, [], ◌∷◌, Option, Some, None, nat_le, if◌then◌else◌}
use Rattle.feel_text.specs.declared.expr.Operator.{Operator}
use Rattle.feel_text.specs.Token.{Token}
use Rattle.feel_text.specs.Expr as expr
use Rattle.feel_text.specs.Expr.{Expr}
use Rattle.feel_text.specs.declared.line.Line.{Line}
use Rattle.feel_text.specs.declared.line.Line.TheVariants as line
use Rattle.feel_text.specs.Reading.{Read, Reader, operator_at, after_then, after_else, after_and, read_at}
use Rattle.feel_value.specs.Found.{◌>>=◌}
use Rattle.feel_text.specs.Tests.{most_depth}
use Rattle.feel_text.specs.TestReading.{after_dots, high_end_at}

-- an expression of depth 1, and the tokens after it
abbrev pub leaf_at : Expr → List Token → Read
leaf_at e ts = Some (e, 1, ts)

-- the branches of a conditional, each with the keyword before it
abbrev pub then_at : (Line → Reader) → Reader
then_at inner ts = after_then ts >>= inner line.Whole

abbrev pub else_at : (Line → Reader) → Reader
else_at inner ts = after_else ts >>= inner line.Whole

-- the high bound of a `between`, with the keyword before it
abbrev pub high_at : (Line → Reader) → Reader
high_at inner ts = after_and ts >>= inner line.Sum

-- two expressions, the depth of the deeper one, and the tokens after them
abbrev pub Pair : Type 0
Pair = Option (Expr × Expr × ℕ × List Token)

unfoldable pub branches_at : (Line → Reader) → List Token → Pair
branches_at inner ts = do
  x ← then_at inner ts
  y ← else_at inner x.2
  Some (x.0, y.0, max x.1 y.1, y.2)

unfoldable pub bounds_at : (Line → Reader) → List Token → Pair
bounds_at inner ts = do
  x ← inner line.Sum ts
  y ← high_at inner x.2
  Some (x.0, y.0, max x.1 y.1, y.2)

-- an operator between a left operand and the right one, which part reads
unfoldable pub step_at : Operator → Reader → ℕ → Expr → ℕ → Reader
step_at op part n e d ts = if nat_le d n then (do
  x ← part ts
  Some (expr.Binary op e x.0, 1 + max d x.1, x.2)) else None

-- the operator of a line that comes first, and the tokens after it
unfoldable pub first_operator : Line → List Token → Option (Operator × List Token)
first_operator l [] = None
first_operator l (t ∷ ts) = do
  op ← operator_at l t
  Some (op, ts)

-- the high end of an interval, with the dots before it: its value, whether it is closed, and the tokens after it
unfoldable pub high_part_at : List Token → Option (Expr × Bool × List Token)
high_part_at ts = do
  us ← after_dots ts
  high ← read_at most_depth line.Sum us
  end ← high_end_at high.2
  Some (high.0, end.0, end.1)
