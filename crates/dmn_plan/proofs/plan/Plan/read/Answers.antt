use Rattle.std.proofs.Common.{◌∙◌, sym, ap, Some, option_map}
use Rattle.std.specs.Prelude.{is_ok}
use Rattle.std.proofs.lemmas.Result.{err_from_is_err_and}
use Rattle.serde_json.specs.View.{view}
use Rattle.serde_json.specs.Written.{compact_text}
use Rattle.dmn_plan.proofs.Indexing.{model_of_text, due_of_text}
use Rattle.dmn_plan.proofs.plan.Plan.read.Goals as goal

pub returns-in_err-plan-clause-err : goal.returns-in_err-plan-clause-err
returns-in_err-plan-clause-err c =
    let p = err_from_is_err_and c.from_residual-in_err-plan.result c.from_residual-in_err-plan.ensures.1 in
    rw (p.1, p.2) (due_of_text c.args.text.now (view c.in_ok-json.json) c.in_err-plan.field-0.0 c.in_ok-json.ensures.utf8 c.in_ok-json.ensures.value c.in_err-plan.ensures.err)

pub returns-clause-model : goal.returns-clause-model
returns-clause-model c =
    c.in_ok-plan.ensures.model ∙ sym (model_of_text c.args.text.now (Some (view c.in_ok-json.json)) c.in_ok-json.ensures.value)

pub returns-clause-read : goal.returns-clause-read
returns-clause-read c =
    ap is_ok (model_of_text c.args.text.now (Some (view c.in_ok-json.json)) c.in_ok-json.ensures.value) ∙ c.in_ok-plan.ensures.read

pub returns-clause-compact : goal.returns-clause-compact
returns-clause-compact c =
    ap (option_map compact_text) c.in_ok-json.ensures.value ∙ ap Some (sym c.in_ok-plan.ensures.compact)
