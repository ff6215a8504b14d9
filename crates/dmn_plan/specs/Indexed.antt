-- Internal, cited by no public contract: the plans of services under their names.
use Rattle.std.specs.Prelude.{List, [], ◌∷◌, Option, None, Some, Result, Ok, Err, ⊤, bytes_eq, if◌then◌else◌, String, string_bytes}
use Rattle.std.specs.declared.alloc.Global.{Global}
use Rattle.std.specs.BTreeMap.{BTreeMap, get_by_text}
use Rattle.feel_text.specs.Expr.{Expr}
use Rattle.dmn_table.specs.Table.{Table}
use Rattle.dmn_form.specs.Model.{Name, Service, Model}
use Rattle.dmn_plan.specs.Plans.{IsPlanFor}
use Rattle.dmn_plan.specs.Request.{service_named}
use Rattle.dmn_plan.specs.declared.fault.ModelFault.{ModelFault}
use Rattle.dmn_service.specs.declared.plan.Item.{Item}
use Rattle.dmn_service.specs.declared.plan.ServicePlan.{ServicePlan}

-- the first plan of this name
abbrev pub plan_named : List ServicePlan → Name → Option ServicePlan
plan_named [] n = None
plan_named (p ∷ ps) n = if bytes_eq n (string_bytes p.name) then Some p else plan_named ps n

abbrev pub first_of : Option ServicePlan → Option ServicePlan → Option ServicePlan
first_of None o = o
first_of (Some p) o = Some p

-- a plan where there is a service, which is its plan
abbrev pub IsPlanAt : Model Expr Table → List Item → Option Service → Option ServicePlan → Type 0
IsPlanAt m items None None = ⊤
IsPlanAt m items None (Some p) = ⊥
IsPlanAt m items (Some s) None = ⊥
IsPlanAt m items (Some s) (Some p) = IsPlanFor m items s p

-- there is a model, and the plan of each of its services stands under the service's name
abbrev pub IsIndexed : Result (Model Expr Table) ModelFault → List Item → BTreeMap (String Global) ServicePlan → Type 0
IsIndexed (Ok m) items plans = (n : Name) → IsPlanAt m items (service_named m.services n) (get_by_text plans n)
IsIndexed (Err f) items plans = ⊥
