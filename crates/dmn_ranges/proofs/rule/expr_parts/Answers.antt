use Rattle.dmn_ranges.specs.Tables.{with_expr, expr_parts}
use Rattle.dmn_ranges.proofs.Walks.{fold_on, fold_done}
use Rattle.dmn_ranges.proofs.rule.expr_parts.Goals as goal

pub loop-expr-preserved : goal.loop-expr-preserved
loop-expr-preserved c =
    let xs = c.args.names.now in
    fold_on (with_expr xs) (expr_parts xs c.args.exprs.now) c.loop-expr.parts c.with_expr-parts.result c.args.exprs.now c.loop-expr.expr-index c.expr-item.result
    c.loop-expr.invariant c.expr-item.is c.loop-expr-test.true c.with_expr-parts.ensures

pub returns : goal.returns
returns c =
    let xs = c.args.names.now in
    fold_done (with_expr xs) (expr_parts xs c.args.exprs.now) c.loop-expr.parts c.args.exprs.now c.loop-expr.expr-index c.loop-expr.invariant c.loop-expr-test.false
