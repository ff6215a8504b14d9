use Rattle.std.proofs.Common.{◌≡◌, ◌∙◌, ◌+◌, ◌<◌, ◌≤◌, ◌∷◌, List, false, is_none, sym, ap, subst, length, map, drop, get_or}
use Rattle.dmn_form.specs.ModelView.{model_view, service_view}
use Rattle.dmn_form.specs.Draft.{Draft}
use Rattle.dmn_form.specs.declared.written.WrittenService.{WrittenService}
use Rattle.dmn_graph.specs.Needs.{needs_view}
use Rattle.dmn_plan.specs.Faults.{is_bad_service}
use Rattle.dmn_plan.specs.Plans.{IsRouteOf}
use Rattle.dmn_plan.proofs.ServicesRoutes.{next_services, lists_once, fault_later, routes_more, routes_all}
use Rattle.dmn_plan.proofs.services.service_plans.Goals as goal

pub service_plan-requires-clause-lists : goal.service_plan-requires-clause-lists
service_plan-requires-clause-lists c =
    let i = c.loop-service.service-index in
    lists_once c.args.model.now i c.service-item.result c.requires.distinct
    (subst (λ (ss : List WrittenService). c.service-item.result ≡ get_or ss i c.service-item.result) c.deref-service-items.ensures.value c.service-item.is)
    (subst (λ (ss : List WrittenService). i < length ss) c.deref-service-items.ensures.value c.loop-service-test.true)

pub loop-service-preserved : goal.loop-service-preserved
loop-service-preserved c =
    let m = model_view c.args.model.now in
    let ss = c.args.model.now.services.items in
    let i = c.loop-service.service-index in
    let s = service_view c.service-item.result in
    let next : map service_view (drop i ss) ≡ s ∷ map service_view (drop (i + 1) ss)
    = next_services ss i c.service-item.result
    (subst (λ (xs : List WrittenService). c.service-item.result ≡ get_or xs i c.service-item.result) c.deref-service-items.ensures.value c.service-item.is)
    (subst (λ (xs : List WrittenService). i < length xs) c.deref-service-items.ensures.value c.loop-service-test.true)
    in
    let good : is_bad_service m s ≡ false = sym (ap is_none (sym c.in-Some.is) ∙ (c.in_ok-plan.ensures.bad ∙ ap (λ d. is_bad_service d s) c.requires.placed)) in
    let route : IsRouteOf m (needs_view c.args.needs.now) s c.in-Some.plan
    = subst (λ (d : Draft). IsRouteOf d (needs_view c.args.needs.now) s c.in-Some.plan) c.requires.placed (rw c.in-Some.is at c.in_ok-plan.ensures.route) in
    record {
      bad = fault_later m (map service_view ss) (map service_view (drop i ss)) (map service_view (drop (i + 1) ss)) s c.loop-service.invariant.bad next good;
      routes = routes_more m (needs_view c.args.needs.now) (map service_view ss) (map service_view (drop i ss)) (map service_view (drop (i + 1) ss)) s c.loop-service.plans.items c.push.new.self.items c.in-Some.plan
          c.loop-service.invariant.routes next route c.in_ok-push.ensures.items;
    }

pub returns-clause-routes : goal.returns-clause-routes
returns-clause-routes c =
    routes_all (model_view c.args.model.now) (needs_view c.args.needs.now) (map service_view c.args.model.now.services.items) c.args.model.now.services.items c.loop-service.service-index c.loop-service.plans.items
    c.loop-service.invariant.routes (subst (λ (ss : List WrittenService). length ss ≤ c.loop-service.service-index) c.deref-service-items.ensures.value c.loop-service-test.false)
