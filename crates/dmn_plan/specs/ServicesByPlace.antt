-- Internal, cited by no public contract: services by places, and the way to their outputs.
use Rattle.std.specs.Prelude.{◌≡◌, ℕ, List, ◌++◌, length, Bool, not, ◌||◌, nat_eq, nat_lt}
use Rattle.std.specs.List.{list_any}
use Rattle.dmn_graph.specs.Reach.{has_same, IsInOrder}
use Rattle.dmn_graph.specs.Needs.{needs_of}
use Rattle.dmn_graph.specs.Within.{reaches_only, IsReachOf}
use Rattle.dmn_names.specs.Places.{PlacedService}
use Rattle.dmn_service.specs.declared.plan.ServicePlan.{ServicePlan}

-- the decisions that a service evaluates, and those that are given to it with the input data
abbrev pub inner_places : PlacedService → List ℕ
inner_places p = p.outputs ++ p.encapsulated

abbrev pub parameter_places : PlacedService → List ℕ
parameter_places p = p.input_decisions ++ p.input_data

-- one of these places is among the others
abbrev pub do_share : List ℕ → List ℕ → Bool
do_share places others = list_any (has_same nat_eq others) places

-- no output; an input decision that is also an output or encapsulated; something that is reached in so many steps and isn't listed
abbrev pub is_bad_by_place : ℕ → List (List ℕ) → PlacedService → Bool
is_bad_by_place steps needs p =
    not (nat_lt 0 (length p.outputs))
    || (do_share p.input_decisions (inner_places p)
    || not (reaches_only steps (inner_places p) (parameter_places p) needs p.outputs))

-- the plan has the places of the service, and between them what is reached, in order
pub record IsPlacedPlan (needs : List (List ℕ)) (p : PlacedService) (plan : ServicePlan) : Type 0 where
  pub parameters : plan.parameters.items ≡ parameter_places p
  pub outputs : plan.outputs.items ≡ p.outputs
  pub which : IsReachOf (parameter_places p) needs p.outputs plan.order.items
  pub behind : IsInOrder nat_eq (needs_of needs) (parameter_places p) plan.order.items
