use Rattle.std.proofs.Common.{◌∙◌, sym, ap, subst, map, List, option_map, Some, string_bytes, ℕ}
use Rattle.std.specs.BTreeMap.{get_by_text}
use Rattle.dmn_plan.specs.ReadModel.{read_text}
use Rattle.dmn_plan.specs.Served.{ArePlansOf}
use Rattle.dmn_service.specs.declared.plan.Item.{Item}
use Rattle.dmn_plan.proofs.Requested.{all_served, each_mapped}
use Rattle.dmn_plan.proofs.plan.Plan.services.Goals as goal

pub returns : goal.returns
returns c =
    let t = string_bytes c.self.inside.text in
    let items = c.self.inside.items.items in
    let services = c.self.inside.services in
    let ns = map (λ n. n.now) c.args.names.now in
    let ps = map (λ p. p.now) c.in-Some.plans.items in
    let found = sym (each_mapped (get_by_text services) (λ n. n.now) c.args.names.now) ∙ sym c.in_ok-plans.ensures ∙ ap (option_map (λ v. map (λ p. p.now) v.items)) c.in-Some.is in
    subst (λ (xs : List Item). ArePlansOf (read_text c.args.self.now) xs ns ps) (sym c.deref.ensures.value)
    (subst (λ (s : List ℕ). ArePlansOf (read_text s) items ns ps) c.self.view_is (all_served (read_text t) items services ns ps c.self.invariant.0 found))
