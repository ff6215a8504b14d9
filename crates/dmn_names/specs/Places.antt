-- Where what is named stands: first the inputs, and then the decisions, in the order in which they are written.
use Rattle.std.specs.Prelude.{ℕ, ◌+◌, suc, List, [], ◌∷◌, ◌++◌, map, length, ◌<◌, ◌≤◌, All, Bool, not, ◌||◌, Option, None, Some, option_map, bytes_eq, if◌then◌else◌}
use Rattle.std.specs.List.{list_any}
use Rattle.dmn_form.specs.Model.{Name, Service}
use Rattle.dmn_form.specs.Draft.{Draft}
use Rattle.feel_value.specs.Found.{◌>>=◌, each}
use Rattle.dmn_names.specs.Parts.{decision_names, value_names}
use Rattle.feel_value.specs.Distinct.{is_among}

-- the place of the first of these names that is this one
abbrev pub place_among : List Name → Name → Option ℕ
place_among [] n = None
place_among (m ∷ ms) n = if bytes_eq n m then Some 0 else option_map suc (place_among ms n)

-- the place of an input or a decision
abbrev pub value_place : Draft → Name → Option ℕ
value_place m n = place_among (value_names m) n

abbrev pub input_place : Draft → Name → Option ℕ
input_place m n = place_among m.inputs n

-- the decisions stand behind the inputs
abbrev pub decision_place : Draft → Name → Option ℕ
decision_place m n = option_map (λ i. length m.inputs + i) (place_among (decision_names m) n)

-- the places of what each decision needs
abbrev pub needed_places : Draft → Option (List (List ℕ))
needed_places m = each (λ d. each (value_place m) d.needs) m.decisions

-- the places of what each place needs; an input needs nothing
abbrev pub needs_by_place : Draft → Option (List (List ℕ))
needs_by_place m = needed_places m >>= λ needs. Some (map (λ n. []) m.inputs ++ needs)

-- the lists of a service, by places
pub record PlacedService : Type 0 where
  pub outputs : List ℕ
  pub encapsulated : List ℕ
  pub input_decisions : List ℕ
  pub input_data : List ℕ

abbrev pub placed_service : Draft → Service → Option PlacedService
placed_service m s =
    each (decision_place m) s.outputs >>= λ outputs.
    each (decision_place m) s.encapsulated >>= λ encapsulated.
    each (decision_place m) s.input_decisions >>= λ input_decisions.
    each (input_place m) s.input_data >>= λ input_data.
    Some (record { outputs = outputs; encapsulated = encapsulated; input_decisions = input_decisions; input_data = input_data })

abbrev pub AreInputPlaces : Draft → List ℕ → Type 0
AreInputPlaces m ps = All (λ p. p < length m.inputs) ps

abbrev pub AreDecisionPlaces : Draft → List ℕ → Type 0
AreDecisionPlaces m ps = All (λ p. (length m.inputs ≤ p) × (p < length (value_names m))) ps

pub record ArePlacesOf (m : Draft) (s : PlacedService) : Type 0 where
  pub outputs : AreDecisionPlaces m s.outputs
  pub encapsulated : AreDecisionPlaces m s.encapsulated
  pub input_decisions : AreDecisionPlaces m s.input_decisions
  pub input_data : AreInputPlaces m s.input_data

-- an output, an encapsulated decision or an input decision is no decision, or an input data is no input
abbrev pub has_stranger : Draft → Service → Bool
has_stranger m s =
    list_any (λ n. not (is_among (decision_names m) n)) (s.outputs ++ s.encapsulated ++ s.input_decisions)
    || list_any (λ n. not (is_among m.inputs n)) s.input_data
