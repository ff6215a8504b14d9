use Rattle.std.proofs.Common.{◌+◌, ◌*◌, max}
use Rattle.feel_text.specs.declared.expr.Tree.{size-Tree}
use Rattle.feel_eval.proofs.scalar.+scalar.Given as goal

-- Each call goes to a part, or from a form to the function that has its operands.
abbrev pub decreases-scalar_value : goal.decreases-scalar_value
decreases-scalar_value l = 8 * goal.size-scalar_value l

abbrev pub decreases-binary : goal.decreases-binary
decreases-binary l = 8 * max (size-Tree l.left.now) (size-Tree l.right.now) + 2

abbrev pub decreases-remainder : goal.decreases-remainder
decreases-remainder l = 8 * max (size-Tree l.left.now) (size-Tree l.right.now) + 2

abbrev pub decreases-branch : goal.decreases-branch
decreases-branch l = 8 * max (size-Tree l.test.now) (max (size-Tree l.yes.now) (size-Tree l.no.now)) + 2

abbrev pub decreases-lies_between : goal.decreases-lies_between
decreases-lies_between l = 8 * max (size-Tree l.value.now) (max (size-Tree l.low.now) (size-Tree l.high.now)) + 2

abbrev pub decreases-operand : goal.decreases-operand
decreases-operand l = 8 * size-Tree l.expr.now + 1
