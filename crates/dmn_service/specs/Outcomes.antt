-- What the names at the places of a plan stand for.
use Rattle.std.specs.Prelude.{◌≡◌, ℕ, List}
use Rattle.std.specs.List.{zip}
use Rattle.feel_value.specs.Datum.{Datum}
use Rattle.feel_value.specs.Found.{value_of}
use Rattle.feel_value.specs.declared.feel.Outcome.{Outcome}
use Rattle.feel_text.specs.Expr.{Expr}
use Rattle.feel_text.specs.Needed.{found_at}
use Rattle.dmn_table.specs.Table.{Table}
use Rattle.dmn_graph.specs.Reach.{Each}
use Rattle.dmn_form.specs.Model.{Name, Service, Model}
use Rattle.dmn_service.specs.Decision.{parameters_of, outcome_of}
use Rattle.dmn_service.specs.Places.{name_at}
use Rattle.dmn_service.specs.Plan.{IsPlanOf}
use Rattle.dmn_service.specs.declared.plan.Item.{Item}
use Rattle.dmn_service.specs.declared.plan.ServicePlan.{ServicePlan}

-- each of these places has the outcome of its name
abbrev pub HaveOutcomes : (Name → Outcome) → List Item → List Outcome → List ℕ → Type 0
HaveOutcomes outcome items found qs = Each (λ q. found_at found q ≡ value_of (outcome (name_at items q))) qs

-- The parameters, and the decisions of the order, have the outcomes that their names have by recursion in each model that this is
-- a plan of, for these values of the parameters.
abbrev pub AreOutcomesOf : List Item → ServicePlan → List Datum → List Outcome → Type 0
AreOutcomesOf items plan values found =
    (m : Model Expr Table) (s : Service) → IsPlanOf m s items plan
    → HaveOutcomes (outcome_of m (zip (parameters_of s) values)) items found plan.parameters.items
    × HaveOutcomes (outcome_of m (zip (parameters_of s) values)) items found plan.order.items
