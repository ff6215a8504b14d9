-- The plan of a service of a model.
use Rattle.std.specs.Prelude.{◌≡◌, List, [], ◌∷◌, Option, Some, Result, Ok, ⊤}
use Rattle.feel_text.specs.Expr.{Expr}
use Rattle.dmn_table.specs.Table.{Table}
use Rattle.dmn_form.specs.Model.{Name, Service, Model}
use Rattle.dmn_service.specs.Plan.{HasPlacesWithin, IsPlanOf}
use Rattle.dmn_service.specs.declared.plan.Item.{Item}
use Rattle.dmn_service.specs.declared.plan.ServicePlan.{ServicePlan}
use Rattle.dmn_plan.specs.Request.{service_named}
use Rattle.dmn_plan.specs.declared.fault.ModelFault.{ModelFault}

-- There is a model, with a service of this name, of which this is the plan.
pub record IsServicePlan (read : Result (Model Expr Table) ModelFault) (n : Name) (items : List Item) (p : ServicePlan) : Type 0 where
  pub model : Model Expr Table
  pub is : read ≡ Ok model
  pub service : Service
  pub named : service_named model.services n ≡ Some service
  pub within : HasPlacesWithin items p
  pub plan : IsPlanOf model service items p

-- these are the plans of the services of these names, one of each
abbrev pub ArePlansOf : Result (Model Expr Table) ModelFault → List Item → List Name → List ServicePlan → Type 0
ArePlansOf read items [] [] = ⊤
ArePlansOf read items [] (p ∷ ps) = ⊥
ArePlansOf read items (n ∷ ns) [] = ⊥
ArePlansOf read items (n ∷ ns) (p ∷ ps) = IsServicePlan read n items p × ArePlansOf read items ns ps
