use Rattle.std.proofs.Common.{◌∙◌, sym, ap, None, option_map}
use Rattle.std.proofs.lemmas.Result.{err_from_is_err_and}
use Rattle.serde_json.specs.View.{view}
use Rattle.dmn_form.specs.ModelView.{model_view}
use Rattle.dmn_plan.proofs.Indexing.{model_of_draft}
use Rattle.dmn_plan.proofs.plan.Plan.of.Goals as goal

pub returns-in_default-clause-err : goal.returns-in_default-clause-err
returns-in_default-clause-err c =
    model_of_draft (view c.args.json.now) None (ap (option_map model_view) (sym c.in_default.is) ∙ c.in_ok-model.ensures)

pub of_form-requires : goal.of_form-requires
of_form-requires c = sym (ap (option_map model_view) (sym c.in-Some.is) ∙ c.in_ok-model.ensures)

pub returns-in_err-plan-clause-err : goal.returns-in_err-plan-clause-err
returns-in_err-plan-clause-err c =
    let p = err_from_is_err_and c.from_residual-in_err-plan.result c.from_residual-in_err-plan.ensures.1 in
    rw (p.1, p.2) c.in_err-plan.ensures.err
