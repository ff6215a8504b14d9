use Rattle.std.proofs.Common.{◌≡◌, ◌∙◌, sym, ap, subst, length, ℕ, List, Option, Some, Ok, string_bytes}
use Rattle.std.specs.Prelude.{unwrap_or}
use Rattle.dmn_plan.specs.ReadModel.{read_text}
use Rattle.dmn_plan.specs.Request.{TakesValues}
use Rattle.dmn_plan.proofs.Asked.{Takes, taken, result_at}
use Rattle.dmn_service.specs.Outcomes.{AreOutcomesOf}
use Rattle.dmn_service.specs.Plan.{IsServiceOutcome}
use Rattle.dmn_service.specs.declared.plan.Item.{Item}
use Rattle.dmn_service.specs.declared.plan.ServicePlan.{ServicePlan}
use Rattle.dmn_plan.proofs.plan.Plan.course.Goals as goal

pub returns-clause-course : goal.returns-clause-course
returns-clause-course c =
    let t = string_bytes c.self.inside.text in
    let items = c.self.inside.items.items in
    let n = c.args.service.now in
    let values = c.args.values.now in
    let plan = c.in-Some.plan.now in
    let evaluation = c.in_ok-evaluation.evaluation in
    let told = taken (read_text t) items c.self.inside.services n (length values) c.self.invariant.0 (subst (λ s. TakesValues s n (length values)) (sym c.self.view_is) c.requires) in
    let has : Some plan ≡ Some told.0 = c.in-Some.ensures.value ∙ told.1 in
    let is : plan ≡ told.0 = ap (λ (o : Option ServicePlan). unwrap_or o plan) has in
    let here : Takes (read_text t) c.deref-2.result.now n (length values) plan =
    subst (λ (xs : List Item). Takes (read_text t) xs n (length values) plan) (sym c.deref-2.ensures.value)
    (subst (λ (p : ServicePlan). Takes (read_text t) items n (length values) p) (sym is) told.2) in
    let same = c.deref.ensures.value ∙ sym c.deref-2.ensures.value in
    let outcomes : AreOutcomesOf c.deref-2.result.now plan values evaluation.outcomes.items =
    subst (λ (xs : List Item). AreOutcomesOf xs plan values evaluation.outcomes.items) same c.in_ok-evaluation.ensures.outcomes in
    let comes : IsServiceOutcome c.deref-2.result.now plan values evaluation.result =
    subst (λ (xs : List Item). IsServiceOutcome xs plan values evaluation.result) same c.in_ok-evaluation.ensures.result in
    let read : read_text c.args.self.now ≡ Ok here.model = subst (λ (s : List ℕ). read_text s ≡ Ok here.model) c.self.view_is here.read in
    let stands = outcomes here.model here.service here.plan in
    record {
      model = here.model;
      read = read;
      service = here.service;
      named = here.named;
      within = here.within;
      plan = here.plan;
      reach = here.reach;
      given = stands.0;
      decided = stands.1;
      result = comes here.model here.service here.plan ∙ sym (result_at c.args.self.now n values here.model here.service read here.named);
    }
