use Rattle.std.proofs.Common.{List, sym, subst, Option}
use Rattle.std.proofs.lemmas.Result.{err_from_is_err_and}
use Rattle.feel_text.specs.declared.token.Token as code
use Rattle.feel_text.specs.Expr.{Expr}
use Rattle.feel_text.specs.Gives.{Gives}
use Rattle.feel_text.specs.Lexical.{IsCut}
use Rattle.feel_text.specs.Token.{views}
use Rattle.feel_text.specs.View.{view}
use Rattle.feel_text.proofs.ReadingLaws.{expr_fails, expr_from_cut, same_fault}
use Rattle.feel_text.proofs.texts.expr_tree.Goals as goal

pub returns-in_err-tokens : goal.returns-in_err-tokens
returns-in_err-tokens c =
    let p = err_from_is_err_and c.from_residual.result c.from_residual.ensures.1 in
    rw (p.1, p.2) (expr_fails c.in_err-tokens.field-0.0 c.args.text.now (λ is. c.in_err-tokens.ensures.none (same_fault is)))

pub returns : goal.returns
returns c =
    let cut : IsCut c.args.text.now (views c.deref.result.now) = subst (λ (items : List code.Token). IsCut c.args.text.now (views items)) (sym c.deref.ensures.value) c.in_ok-tokens.ensures.found in
    subst (λ (o : Option Expr). Gives view c.expression.result o) (expr_from_cut c.args.text.now (views c.deref.result.now) cut) c.expression.ensures
