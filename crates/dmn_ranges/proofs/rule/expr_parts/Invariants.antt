use Rattle.std.proofs.Common.{◌≡◌, drop}
use Rattle.std.specs.List.{fold}
use Rattle.dmn_ranges.specs.Tables.{with_expr, expr_parts}
use Rattle.dmn_ranges.proofs.rule.expr_parts.Given as goal

abbrev pub invariant-loop-expr : goal.invariant-loop-expr
invariant-loop-expr l = expr_parts l.names l.exprs ≡ fold (with_expr l.names) l.parts (drop l.expr-index l.exprs)
