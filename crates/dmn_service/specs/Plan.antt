-- When places and their order are a plan of a service of a model.
use Rattle.std.specs.Prelude.{◌≡◌, ◌<◌, ◌≤◌, ℕ, suc, List, map, length, Option, option_map, nat_eq, true, false}
use Rattle.std.specs.Arc.{arc_str_bytes}
use Rattle.std.specs.List.{filter_map, zip, All}
use Rattle.feel_value.specs.Datum.{Datum}
use Rattle.feel_value.specs.declared.feel.Outcome.{Outcome}
use Rattle.feel_text.specs.Expr.{Expr}
use Rattle.feel_value.specs.Distinct.{are_distinct}
use Rattle.dmn_table.specs.Table.{Table}
use Rattle.dmn_graph.specs.Reach.{Each, IsInOrder, has_same}
use Rattle.dmn_form.specs.Model.{Name, Decision, Service, Model}
use Rattle.dmn_logic.specs.LogicView.{logic_view}
use Rattle.dmn_service.specs.Decision.{Given, parameters_of, stands_for, outcome_within, outputs_result, service_result}
use Rattle.dmn_service.specs.Places.{names_of, name_at, needs_at, named_places}
use Rattle.dmn_service.specs.declared.plan.Item.{Item}
use Rattle.dmn_service.specs.declared.plan.ServicePlan.{ServicePlan}

-- Every place that the items and the plan name is a place of an item, and the places that an item needs stand under their names.
pub record HasPlacesWithin (items : List Item) (plan : ServicePlan) : Type 0 where
  pub needs : All (λ x. All (λ q. q < length items) x.needs.items) items
  pub named : All (λ x. x.named ≡ named_places (name_at items) x.needs.items) items
  pub parameters : All (λ q. q < length items) plan.parameters.items
  pub order : All (λ q. q < length items) plan.order.items
  pub outputs : All (λ q. q < length items) plan.outputs.items

abbrev pub IsAmong : List ℕ → ℕ → Type 0
IsAmong qs q = has_same nat_eq qs q ≡ true

abbrev pub IsNotAmong : List ℕ → ℕ → Type 0
IsNotAmong qs q = has_same nat_eq qs q ≡ false

-- the decision that an item is; none where it is an input
abbrev pub decision_of : List Item → Item → Option (Decision Expr Table)
decision_of items x =
    option_map (λ l. record { name = arc_str_bytes x.name; needs = map (name_at items) x.needs.items; logic = logic_view l }) x.logic

-- The items have distinct names and are the decisions of the model, among inputs; and the plan leads from the parameters of the
-- service to its outputs. Its order has no parameter, at most as many places as the model has decisions, and each behind those
-- that it needs.
pub record IsPlanOf (m : Model Expr Table) (s : Service) (items : List Item) (plan : ServicePlan) : Type 0 where
  pub names : are_distinct (names_of items) ≡ true
  pub decisions : m.decisions ≡ filter_map (decision_of items) items
  pub parameters : parameters_of s ≡ map (name_at items) plan.parameters.items
  pub distinct : are_distinct (parameters_of s) ≡ true
  pub apart : Each (IsNotAmong plan.parameters.items) plan.order.items
  pub short : length plan.order.items ≤ length m.decisions
  pub behind : IsInOrder nat_eq (needs_at items) plan.parameters.items plan.order.items
  pub outputs : s.outputs ≡ map (name_at items) plan.outputs.items
  pub ends : Each (IsAmong plan.order.items) plan.outputs.items

-- The outcome is the result of each service that this is a plan of, for these values of its parameters.
abbrev pub IsServiceOutcome : List Item → ServicePlan → List Datum → Outcome → Type 0
IsServiceOutcome items plan values o =
    (m : Model Expr Table) (s : Service) → IsPlanOf m s items plan → o ≡ service_result m s (zip (parameters_of s) values)

-- The outcome is that of the outputs by recursion down to any number of steps that is more than the model's decisions.
abbrev pub IsOutcomeWithin : List Item → ServicePlan → List Datum → Outcome → Type 0
IsOutcomeWithin items plan values o =
    (m : Model Expr Table) (s : Service) → IsPlanOf m s items plan → (steps : ℕ) → suc (length m.decisions) ≤ steps
    → o ≡ outputs_result s (outcome_within steps m (zip (parameters_of s) values))

-- each name has the outcome that it stands for
abbrev pub ObeysRecursion : Model Expr Table → Given → (Name → Outcome) → Type 0
ObeysRecursion m given outcome = (n : Name) → outcome n ≡ stands_for m given outcome n

-- The outcome is that of the outputs wherever names have outcomes that obey the recursion.
abbrev pub IsRecursionOutcome : List Item → ServicePlan → List Datum → Outcome → Type 0
IsRecursionOutcome items plan values o =
    (m : Model Expr Table) (s : Service) → IsPlanOf m s items plan → (outcome : Name → Outcome) → ObeysRecursion m (zip (parameters_of s) values) outcome
    → o ≡ outputs_result s outcome
