use Rattle.std.proofs.Common.{◌∙◌, sym, ap, subst, Some}
use Rattle.std.specs.Prelude.{is_ok}
use Rattle.std.proofs.lemmas.Result.{err_from_is_err_and}
use Rattle.serde_json.specs.View.{view}
use Rattle.dmn_form.specs.ModelView.{model_view}
use Rattle.dmn_plan.specs.Due.{IsDue}
use Rattle.dmn_plan.specs.Indexed.{IsIndexed}
use Rattle.dmn_plan.specs.Plans.{HaveLogicOf}
use Rattle.dmn_plan.proofs.Floats.{draft_free}
use Rattle.dmn_plan.proofs.Indexing.{model_of_draft, model_of_text, indexed, nests, planned_is_model}
use Rattle.dmn_plan.proofs.Rising.{read_rises}
use Rattle.dmn_plan.proofs.plan.Plan.of_form.Goals as goal

pub returns-in_err-plan-clause-err : goal.returns-in_err-plan-clause-err
returns-in_err-plan-clause-err c =
    let p = err_from_is_err_and c.from_residual.result c.from_residual.ensures.1 in
    rw (p.1, p.2) (subst (λ r. IsDue r c.in_err-plan.field-0.0) (sym (model_of_draft (view c.args.json.now) (Some (model_view c.args.model.now)) (sym c.requires))) c.in_err-plan.ensures.err)

pub invariant_of-result : goal.invariant_of-result
invariant_of-result c =
    let d = view c.args.json.now in
    let m = model_view c.args.model.now in
    let plan = c.in_ok-plan.plan in
    let reads = c.in_ok-text.ensures.reads_back (nests d m c.requires) in
    let same = sym (model_of_draft d (Some m) (sym c.requires)) ∙ sym (model_of_text c.in_ok-text.text.bytes.items (Some d) reads) in (
      subst (λ r. IsIndexed r plan.items.items c.in_ok-services.services) same
          (indexed _ plan.items.items plan.services.items c.in_ok-services.services c.in_ok-plan.ensures.ok c.in_ok-services.ensures),
      subst (λ r. HaveLogicOf r plan.items.items) same c.in_ok-plan.ensures.logic,
    )

pub returns-clause-model : goal.returns-clause-model
returns-clause-model c =
    let d = view c.args.json.now in
    model_of_text c.in_ok-text.text.bytes.items (Some d) (c.in_ok-text.ensures.reads_back (nests d (model_view c.args.model.now) c.requires))

pub returns-clause-read : goal.returns-clause-read
returns-clause-read c =
    ap is_ok (model_of_draft (view c.args.json.now) (Some (model_view c.args.model.now)) (sym c.requires))
    ∙ planned_is_model _ c.in_ok-plan.plan.items.items c.in_ok-plan.plan.services.items c.in_ok-plan.ensures.ok

pub returns-clause-compact : goal.returns-clause-compact
returns-clause-compact c =
    let d = view c.args.json.now in
    let m = model_view c.args.model.now in
    let reads = c.in_ok-text.ensures.reads_back (nests d m c.requires) in
    c.in_ok-text.ensures.text (draft_free d m (read_rises c.in_ok-text.text.bytes.items d reads) c.requires)
