use Rattle.std.proofs.Common.{◌≡◌, ◌∙◌, sym, ap, subst, ◌+◌, drop, arith, rules, false, Some}
use Rattle.std.proofs.lemmas.List.{drop_all}
use Rattle.feel_text.specs.Expr as expr
use Rattle.feel_text.specs.View.{view, views}
use Rattle.feel_text.specs.declared.expr.Tree.{the_lemmas}
use Rattle.feel_eval.proofs.ExprViews.{exprs_from}
use Rattle.dmn_ranges.specs.Steps.{list_call, members_folded, members_parts, with_member, with_part}
use Rattle.dmn_ranges.specs.declared.folded.Folded.{Folded}
use Rattle.dmn_ranges.specs.declared.outcomes.Outcomes.{Outcomes}
use Rattle.dmn_ranges.proofs.SoundLists.{is_written, list_is, other_call}
use Rattle.dmn_ranges.proofs.Folding.{near_fewer}
use Rattle.dmn_ranges.proofs.expression.+outcomes.Goals as goal

pub members-loop-expr-preserved : goal.members-loop-expr-preserved
members-loop-expr-preserved t c =
    let xs = c.args.names.now in
    let x = c.expr-item.result in
    let later = views (drop (c.loop-expr.expr-index + 1) c.args.exprs.now) in
    c.loop-expr.invariant ∙ ap (λ es. members_parts c.loop-expr.parts es xs) (exprs_from c.args.exprs.now c.loop-expr.expr-index x c.expr-item.is c.loop-expr-test.true)
    ∙ ap (λ (o : Outcomes). members_parts (with_part c.loop-expr.parts o) later xs) (sym c.outcomes.ensures) ∙ ap (λ p. members_parts p later xs) (sym c.with-parts.ensures)

pub members-returns : goal.members-returns
members-returns t c =
    sym (c.loop-expr.invariant ∙ ap (λ es. members_parts c.loop-expr.parts (views es) c.args.names.now) (drop_all c.loop-expr.expr-index c.args.exprs.now (omega (arith, c.loop-expr-test.false))))

pub members_folded-with_member-requires : goal.members_folded-with_member-requires
members_folded-with_member-requires t c = near_fewer c.loop-expr.expr-index 9223372036854775808 c.loop-expr.folded (omega (arith, c.loop-expr-test.true)) c.loop-expr.invariant.near

pub members_folded-loop-expr-preserved : goal.members_folded-loop-expr-preserved
members_folded-loop-expr-preserved t c =
    let xs = c.args.names.now in
    let f = c.args.function in
    let x = c.expr-item.result in
    let g = c.loop-expr.folded in
    let later = views (drop (c.loop-expr.expr-index + 1) c.args.exprs.now) in
    record {
      told = c.loop-expr.invariant.told ∙ ap (λ es. members_folded f g es xs) (exprs_from c.args.exprs.now c.loop-expr.expr-index x c.expr-item.is c.loop-expr-test.true)
          ∙ ap (λ (o : Outcomes). members_folded f (Some (with_member f g o)) later xs) (sym c.outcomes.ensures) ∙ ap (λ (h : Folded). members_folded f (Some h) later xs) (sym c.with_member.ensures.same);
      near = c.with_member.ensures.near c.loop-expr.expr-index c.loop-expr.invariant.near;
    }

pub members_folded-returns : goal.members_folded-returns
members_folded-returns t c =
    sym (c.loop-expr.invariant.told ∙ ap (λ es. members_folded c.args.function c.loop-expr.folded (views es) c.args.names.now) (drop_all c.loop-expr.expr-index c.args.exprs.now (omega (arith, c.loop-expr-test.false))))

pub list_call-returns-in_default : goal.list_call-returns-in_default
list_call-returns-in_default t c =
    let other : is_written (view c.args.argument.now) ≡ false = search (rules, the_lemmas) in
    other_call c.args.function (view c.args.argument.now) c.args.names.now other

pub list_call-returns-in-List : goal.list_call-returns-in-List
list_call-returns-in-List t c =
    let f = c.args.function in
    let xs = c.args.names.now in
    let es = c.deref-in-List.result.now in
    let shown : expr.Members (views es) ≡ view c.args.argument.now = search (rules, the_lemmas) in
    subst (λ e. Some c.list_outcomes.result ≡ list_call f e xs) shown
    (list_is f xs es c.len.result c.members_folded-folded.result c.list_outcomes.result (c.len.ensures ∙ sym c.deref-in-List.ensures.len) c.members_folded-folded.ensures c.list_outcomes.ensures)
