use Rattle.std.proofs.Common.{◌≡◌, List, ◌++◌, map, drop}
use Rattle.std.specs.List.{list_any}
use Rattle.dmn_form.specs.ModelView.{model_view, service_view}
use Rattle.dmn_graph.specs.Needs.{needs_view}
use Rattle.dmn_service.specs.declared.plan.ServicePlan.{ServicePlan}
use Rattle.dmn_plan.specs.Faults.{has_bad_service, is_bad_service}
use Rattle.dmn_plan.specs.Plans.{AreRoutesOf}
use Rattle.dmn_plan.proofs.services.service_plans.Given as goal

abbrev pub invariant-loop-service : goal.invariant-loop-service
invariant-loop-service l = record {
  bad : has_bad_service (model_view l.model) ≡ list_any (is_bad_service (model_view l.model)) (map service_view (drop l.service-index l.model.services.items));
  routes : (rest : List ServicePlan) → AreRoutesOf (model_view l.model) (needs_view l.needs) (map service_view (drop l.service-index l.model.services.items)) rest
      → AreRoutesOf (model_view l.model) (needs_view l.needs) (map service_view l.model.services.items) (l.plans.items ++ rest);
}
