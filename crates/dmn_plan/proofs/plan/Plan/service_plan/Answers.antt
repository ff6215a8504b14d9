use Rattle.std.proofs.Common.{sym, subst, List, string_bytes, ℕ}
use Rattle.dmn_plan.specs.ReadModel.{read_text}
use Rattle.dmn_plan.specs.Served.{IsServicePlan}
use Rattle.dmn_service.specs.declared.plan.Item.{Item}
use Rattle.dmn_plan.proofs.Requested.{served}
use Rattle.dmn_plan.proofs.plan.Plan.service_plan.Goals as goal

pub returns-clause-plan : goal.returns-clause-plan
returns-clause-plan c =
    let t = string_bytes c.self.inside.text in
    let items = c.self.inside.items.items in
    let n = c.args.service.now in
    let plan = c.in_ok-plan.plan.now in
    let here : IsServicePlan (read_text t) n items plan = served (read_text t) items c.self.inside.services n plan c.self.invariant.0 c.in_ok-plan.ensures.value in
    subst (λ (xs : List Item). IsServicePlan (read_text c.args.self.now) n xs plan) (sym c.deref.ensures.value)
    (subst (λ (s : List ℕ). IsServicePlan (read_text s) n items plan) c.self.view_is here)
