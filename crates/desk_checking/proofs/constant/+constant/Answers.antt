use Rattle.std.proofs.Common.{◌∙◌, ◌&&◌, ◌+◌, drop, sym, ap, arith}
use Rattle.std.proofs.lemmas.List.{drop_all}
use Rattle.feel_text.specs.View.{views}
use Rattle.desk_checking.specs.Domains.{are_constant}
use Rattle.desk_checking.proofs.Constants.{exprs_from}
use Rattle.desk_checking.proofs.constant.+constant.Goals as goal

pub are_constant-loop-expr-preserved : goal.are_constant-loop-expr-preserved
are_constant-loop-expr-preserved t c =
    let exprs = c.args.exprs.now in
    let i = c.loop-expr.expr-index in
    c.loop-expr.invariant ∙ exprs_from exprs i c.expr-item.result c.expr-item.is c.loop-expr-test.true
    ∙ ap (λ b. b && are_constant (views (drop (i + 1) exprs))) (sym c.is_constant.ensures ∙ c.if-not-is_constant.false)

pub are_constant-returns-then-not-is_constant : goal.are_constant-returns-then-not-is_constant
are_constant-returns-then-not-is_constant t c =
    let exprs = c.args.exprs.now in
    let i = c.loop-expr.expr-index in
    sym (c.loop-expr.invariant ∙ exprs_from exprs i c.expr-item.result c.expr-item.is c.loop-expr-test.true
    ∙ ap (λ b. b && are_constant (views (drop (i + 1) exprs))) (sym c.is_constant.ensures ∙ c.if-not-is_constant.true))

pub are_constant-returns : goal.are_constant-returns
are_constant-returns t c =
    sym (c.loop-expr.invariant ∙ ap (λ es. are_constant (views es)) (drop_all c.loop-expr.expr-index c.args.exprs.now (omega (arith, c.loop-expr-test.false))))
