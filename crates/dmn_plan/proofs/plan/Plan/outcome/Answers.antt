use Rattle.std.proofs.Common.{◌≡◌, ◌∙◌, sym, ap, subst, length, List, Some, string_bytes, nat_eq}
use Rattle.dmn_plan.specs.ReadModel.{read_text}
use Rattle.dmn_plan.specs.Request.{TakesValues, request_result}
use Rattle.dmn_plan.proofs.Asked.{asked, result_of}
use Rattle.dmn_service.specs.Plan.{IsServiceOutcome}
use Rattle.dmn_service.specs.Places.{needs_at}
use Rattle.dmn_service.specs.declared.plan.Item.{Item}
use Rattle.dmn_service.specs.declared.plan.ServicePlan.{ServicePlan}
use Rattle.dmn_graph.specs.Reach.{IsInOrder}
use Rattle.dmn_plan.proofs.plan.Plan.outcome.Goals as goal

pub service_outcome_in_order-requires-clause-order : goal.service_outcome_in_order-requires-clause-order
service_outcome_in_order-requires-clause-order c =
    let t = string_bytes c.self.inside.text in
    let items = c.self.inside.items.items in
    let n = c.args.service.now in
    let values = c.args.values.now in
    let plan = c.in-Some.plan.now in
    let told = asked (read_text t) items c.self.inside.services n (length values) c.self.invariant.0 (subst (λ s. TakesValues s n (length values)) (sym c.self.view_is) c.requires) in
    let same : Some plan ≡ Some told.0 = c.in-Some.ensures.value ∙ told.1 in
    let is : plan ≡ told.0 = cc in
    subst (λ (xs : List Item). IsInOrder nat_eq (needs_at xs) plan.parameters.items plan.order.items) (sym c.deref.ensures.value)
    (subst (λ (p : ServicePlan). IsInOrder nat_eq (needs_at items) p.parameters.items p.order.items) (sym is) told.2.behind)

pub returns : goal.returns
returns c =
    let t = string_bytes c.self.inside.text in
    let items = c.self.inside.items.items in
    let n = c.args.service.now in
    let values = c.args.values.now in
    let out = c.in_ok-outcome.outcome in
    let told = asked (read_text t) items c.self.inside.services n (length values) c.self.invariant.0 (subst (λ s. TakesValues s n (length values)) (sym c.self.view_is) c.requires) in
    let same : Some c.in-Some.plan.now ≡ Some told.0 = c.in-Some.ensures.value ∙ told.1 in
    let is : c.in-Some.plan.now ≡ told.0 = cc in
    told.2.outcome values out
    (subst (λ p. IsServiceOutcome items p values out) is (subst (λ xs. IsServiceOutcome xs c.in-Some.plan.now values out) c.deref.ensures.value c.in_ok-outcome.ensures.result))
    ∙ sym (result_of (record { text = t; service = n; values = values }))
    ∙ ap (λ s. request_result (record { text = s; service = n; values = values })) c.self.view_is
