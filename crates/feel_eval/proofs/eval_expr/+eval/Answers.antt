use Rattle.std.proofs.Common.{◌≡◌, ◌∙◌, sym, ap, ◌+◌, ◌++◌, [], ◌∷◌, drop, arith, Bool, false, if◌then◌else◌, List}
use Rattle.std.specs.Prelude.{option_map}
use Rattle.std.proofs.lemmas.List.{drop_all}
use Rattle.feel_value.specs.Datum.{Datum, list, items_of}
use Rattle.feel_value.specs.Limits.{is_value}
use Rattle.feel_value.specs.declared.feel.Outcome.TheVariants.{Is}
use Rattle.feel_value.proofs.Room.{behind}
use Rattle.feel_text.specs.Meaning.{den, dens, list_held}
use Rattle.feel_text.specs.View.{view, views}
use Rattle.feel_eval.proofs.ExprViews.{exprs_from}
use Rattle.feel_eval.proofs.ListMembers.{member_step, stopped, whole}
use Rattle.feel_eval.proofs.eval_expr.+eval.Goals as goal

pub list-returns-then-not-branch : goal.list-returns-then-not-branch
list-returns-then-not-branch t c =
    let env = c.args.env.now in
    let ms = c.loop-expr.members in
    let d = c.in-Is.value in
    let x = c.expr-item.result in
    let rest = dens (views (drop (c.loop-expr.expr-index + 1) c.args.exprs.now)) env in
    let here = c.loop-expr.invariant ∙ ap (λ es. list_held (option_map (behind ms) (dens es env))) (exprs_from c.args.exprs.now c.loop-expr.expr-index x c.expr-item.is c.loop-expr-test.true) in
    let got : den (view x) env ≡ Is d = sym c.in_ok-value.ensures ∙ c.in-Is.is in
    let refused : is_value (list (items_of (ms ++ d ∷ []))) ≡ false = sym c.in_ok-push.ensures.fits ∙ c.if-not-branch.true in
    sym (here ∙ ap list_held (member_step ms d (den (view x) env) rest got) ∙ stopped (ms ++ d ∷ []) rest refused)

pub list-loop-expr-preserved : goal.list-loop-expr-preserved
list-loop-expr-preserved t c =
    let env = c.args.env.now in
    let ms = c.loop-expr.members in
    let d = c.in-Is.value in
    let x = c.expr-item.result in
    let rest = dens (views (drop (c.loop-expr.expr-index + 1) c.args.exprs.now)) env in
    let here = c.loop-expr.invariant ∙ ap (λ es. list_held (option_map (behind ms) (dens es env))) (exprs_from c.args.exprs.now c.loop-expr.expr-index x c.expr-item.is c.loop-expr-test.true) in
    let got : den (view x) env ≡ Is d = sym c.in_ok-value.ensures ∙ c.in-Is.is in
    let taken : c.push.new.self ≡ ms ++ d ∷ [] = c.in_ok-push.ensures.taken ∙ ap (λ (b : Bool). if b then ms ++ d ∷ [] else ms) c.if-not-branch.false in
    here ∙ ap list_held (member_step ms d (den (view x) env) rest got) ∙ ap (λ (ys : List Datum). list_held (option_map (behind ys) rest)) (sym taken)

pub list-returns : goal.list-returns
list-returns t c =
    let env = c.args.env.now in
    let ms = c.loop-expr.members in
    let all = c.loop-expr.invariant ∙ ap (λ es. list_held (option_map (behind ms) (dens (views es) env))) (drop_all c.loop-expr.expr-index c.args.exprs.now (omega (arith, c.loop-expr-test.false))) in
    ap Is c.in_ok-into_list.ensures.members ∙ sym (whole ms c.into_list.ensures.lawful) ∙ sym all
