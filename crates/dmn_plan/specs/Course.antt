-- How a request is answered, decision by decision.
use Rattle.std.specs.Prelude.{◌≡◌, List, map, Option, Some, Result, Ok}
use Rattle.std.specs.List.{zip}
use Rattle.feel_text.specs.Expr.{Expr}
use Rattle.dmn_table.specs.Table.{Table}
use Rattle.dmn_graph.specs.Within.{IsReachOf}
use Rattle.dmn_form.specs.Model.{Service, Model}
use Rattle.dmn_service.specs.Decision.{parameters_of, outcome_of}
use Rattle.dmn_service.specs.Outcomes.{HaveOutcomes}
use Rattle.dmn_service.specs.Plan.{HasPlacesWithin, IsPlanOf}
use Rattle.dmn_service.specs.declared.plan.Item.{Item}
use Rattle.dmn_service.specs.declared.plan.ServicePlan.{ServicePlan}
use Rattle.dmn_plan.specs.ReadModel.{read_text}
use Rattle.dmn_plan.specs.Request.{Request, service_named, request_result}
use Rattle.dmn_plan.specs.declared.course.Course.{Course}

-- the order has each decision that the outputs lead to, and that is not given, once
abbrev pub HasReach : List Item → ServicePlan → Type 0
HasReach items plan = IsReachOf plan.parameters.items (map (λ x. x.needs.items) items) plan.outputs.items plan.order.items

-- The model and the service of the request, with a plan of it; what each parameter and each decision of the plan's order stands
-- for, by recursion over names; and the result of the request.
pub record IsCourseOf (q : Request) (c : Course) : Type 0 where
  pub model : Model Expr Table
  pub read : read_text q.text ≡ Ok model
  pub service : Service
  pub named : service_named model.services q.service ≡ Some service
  pub within : HasPlacesWithin c.items.now c.service.now
  pub plan : IsPlanOf model service c.items.now c.service.now
  pub reach : HasReach c.items.now c.service.now
  pub given : HaveOutcomes (outcome_of model (zip (parameters_of service) q.values)) c.items.now c.outcomes.items c.service.now.parameters.items
  pub decided : HaveOutcomes (outcome_of model (zip (parameters_of service) q.values)) c.items.now c.outcomes.items c.service.now.order.items
  pub result : c.result ≡ request_result q
