-- Internal: names, needs and logic of a model by places, and when plans of services are those of a model.
use Rattle.std.specs.Prelude.{◌≡◌, ◌<◌, ◌≤◌, ℕ, List, [], ◌∷◌, ◌++◌, map, length, true, Option, None, Some, option_map, Result, Ok, Err, string_bytes, nat_eq, slice_index_or, drop, ⊤}
use Rattle.std.specs.Arc.{arc_str_bytes}
use Rattle.std.specs.List.{All}
use Rattle.feel_text.specs.Expr.{Expr}
use Rattle.dmn_table.specs.Table.{Table}
use Rattle.dmn_form.specs.Draft.{Draft}
use Rattle.dmn_form.specs.Model.{Name, Boxed, Service, Model}
use Rattle.dmn_logic.specs.LogicView.{logic_view}
use Rattle.feel_value.specs.Distinct.{are_distinct}
use Rattle.dmn_names.specs.Parts.{value_names}
use Rattle.dmn_names.specs.Places.{needs_by_place}
use Rattle.dmn_service.specs.Decision.{parameters_of}
use Rattle.dmn_service.specs.Places.{named_places}
use Rattle.dmn_service.specs.Plan.{HasPlacesWithin, IsPlanOf, IsAmong, IsNotAmong}
use Rattle.dmn_graph.specs.Reach.{Each, IsInOrder}
use Rattle.dmn_graph.specs.Within.{IsReachOf}
use Rattle.dmn_service.specs.declared.plan.Item.{Item}
use Rattle.dmn_service.specs.declared.plan.ServicePlan.{ServicePlan}
use Rattle.dmn_plan.specs.Course.{HasReach}
use Rattle.dmn_plan.specs.Items.{have_named, have_needs}
use Rattle.dmn_plan.specs.declared.fault.ModelFault.{ModelFault}

-- ---- by places: first the inputs, and then the decisions

-- the logic at each place: an input has none
abbrev pub place_logic : List Name → List (Boxed Expr Table) → List (Option (Boxed Expr Table))
place_logic inputs logics = map (λ n. None) inputs ++ map Some logics

abbrev pub place_name : Draft → ℕ → Name
place_name m q = slice_index_or (value_names m) q []

-- lists of places, each place under its name
abbrev pub needed_by_name : Draft → List (List ℕ) → List (List (Name × ℕ))
needed_by_name m = map (named_places (place_name m))

-- these are the needs of the decisions by name, where all that is needed is known
abbrev pub AreNeedsOf : Draft → List (List (Name × ℕ)) → Type 0
AreNeedsOf m named = (needs : List (List ℕ)) → needs_by_place m ≡ Some needs → named ≡ needed_by_name m (drop (length m.inputs) needs)

-- what each item needs stands under its name
abbrev pub AreNamed : Draft → List Item → Type 0
AreNamed m items = have_named items ≡ needed_by_name m (have_needs items)

-- the items are those of the model, with what each place needs and the logic of each decision
pub record AreItemsOf (m : Draft) (needs : List (List ℕ)) (logics : List (Boxed Expr Table)) (items : List Item) : Type 0 where
  pub names : map (λ x. arc_str_bytes x.name) items ≡ value_names m
  pub needed : map (λ x. x.needs.items) items ≡ needs
  pub logic : map (λ x. option_map logic_view x.logic) items ≡ place_logic m.inputs logics
  pub named : AreNamed m items

-- what a place needs
abbrev pub place_need : List (List ℕ) → ℕ → List ℕ
place_need needs q = slice_index_or needs q []

-- The plan leads from the service's parameters to its outputs. Its order has no parameter, at most as many places as there are
-- decisions, and each behind those that it needs. All places are places of the model.
pub record IsRouteOf (m : Draft) (needs : List (List ℕ)) (s : Service) (plan : ServicePlan) : Type 0 where
  pub name : string_bytes plan.name ≡ s.name
  pub parameters_within : All (λ q. q < length (value_names m)) plan.parameters.items
  pub order_within : All (λ q. q < length (value_names m)) plan.order.items
  pub outputs_within : All (λ q. q < length (value_names m)) plan.outputs.items
  pub parameters : parameters_of s ≡ map (place_name m) plan.parameters.items
  pub distinct : are_distinct (parameters_of s) ≡ true
  pub apart : Each (IsNotAmong plan.parameters.items) plan.order.items
  pub short : length plan.order.items ≤ length m.decisions
  pub behind : IsInOrder nat_eq (place_need needs) plan.parameters.items plan.order.items
  pub outputs : s.outputs ≡ map (place_name m) plan.outputs.items
  pub ends : Each (IsAmong plan.order.items) plan.outputs.items
  pub reach : IsReachOf plan.parameters.items needs plan.outputs.items plan.order.items

abbrev pub AreRoutesOf : Draft → List (List ℕ) → List Service → List ServicePlan → Type 0
AreRoutesOf m needs [] [] = ⊤
AreRoutesOf m needs (s ∷ ss) (p ∷ ps) = IsRouteOf m needs s p × AreRoutesOf m needs ss ps
AreRoutesOf m needs [] (p ∷ ps) = ⊥
AreRoutesOf m needs (s ∷ ss) [] = ⊥

-- ---- of the model that was read

-- the plan is one of the service in this model
abbrev pub IsPlanFor : Model Expr Table → List Item → Service → ServicePlan → Type 0
IsPlanFor m items s p = (string_bytes p.name ≡ s.name) × HasPlacesWithin items p × IsPlanOf m s items p × HasReach items p

-- each service has its plan, in their order
abbrev pub ArePlansFor : Model Expr Table → List Item → List Service → List ServicePlan → Type 0
ArePlansFor m items [] [] = ⊤
ArePlansFor m items (s ∷ ss) (p ∷ ps) = IsPlanFor m items s p × ArePlansFor m items ss ps
ArePlansFor m items [] (p ∷ ps) = ⊥
ArePlansFor m items (s ∷ ss) [] = ⊥

-- there is a model, and these are its items and the plans of its services
abbrev pub IsPlanned : Result (Model Expr Table) ModelFault → List Item → List ServicePlan → Type 0
IsPlanned (Ok m) items plans = ArePlansFor m items m.services plans
IsPlanned (Err f) items plans = ⊥

-- first the inputs, which have no logic, and then the logic of each decision
abbrev pub HaveLogicOf : Result (Model Expr Table) ModelFault → List Item → Type 0
HaveLogicOf (Ok m) items = map (λ x. option_map logic_view x.logic) items ≡ place_logic m.inputs (map (λ d. d.logic) m.decisions)
HaveLogicOf (Err f) items = ⊥
