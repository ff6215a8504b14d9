use Rattle.std.proofs.Common.{◌≡◌, ◌+◌, ◌*◌, max, drop}
use Rattle.std.specs.Prelude.{option_map}
use Rattle.feel_text.specs.Meaning.{dens, list_held}
use Rattle.feel_text.specs.View.{views}
use Rattle.feel_text.specs.declared.expr.Tree.{size-Tree}
use Rattle.feel_value.proofs.Room.{behind}
use Rattle.feel_eval.proofs.eval_expr.+eval.Given as goal

abbrev pub invariant-list-loop-expr : goal.invariant-list-loop-expr
invariant-list-loop-expr l = list_held (dens (views l.exprs) l.env) ≡ list_held (option_map (behind l.members) (dens (views (drop l.expr-index l.exprs)) l.env))

-- Each call goes to a part, or to the same expression on the way from a form to its operands.
abbrev pub decreases-eval : goal.decreases-eval
decreases-eval l = 8 * goal.size-eval l + 2

abbrev pub decreases-evaluated : goal.decreases-evaluated
decreases-evaluated l = 8 * goal.size-evaluated l + 1

abbrev pub decreases-operand : goal.decreases-operand
decreases-operand l = 8 * goal.size-operand l

abbrev pub decreases-is_met : goal.decreases-is_met
decreases-is_met l = 8 * goal.size-is_met l + 2

abbrev pub decreases-operands : goal.decreases-operands
decreases-operands l = 8 * max (size-Tree l.left.now) (size-Tree l.right.now) + 2

abbrev pub decreases-lies_between : goal.decreases-lies_between
decreases-lies_between l = 8 * max (size-Tree l.value.now) (max (size-Tree l.low.now) (size-Tree l.high.now)) + 3

abbrev pub decreases-list : goal.decreases-list
decreases-list l = 8 * goal.size-list l + 3
