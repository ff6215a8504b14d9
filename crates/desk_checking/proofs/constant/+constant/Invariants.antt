use Rattle.std.proofs.Common.{◌≡◌, drop}
use Rattle.feel_text.specs.View.{views}
use Rattle.desk_checking.specs.Domains.{are_constant}
use Rattle.desk_checking.proofs.constant.+constant.Given as goal

abbrev pub invariant-are_constant-loop-expr : goal.invariant-are_constant-loop-expr
invariant-are_constant-loop-expr l = are_constant (views l.exprs) ≡ are_constant (views (drop l.expr-index l.exprs))
