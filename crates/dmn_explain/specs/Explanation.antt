-- How the answer to a request came about, in JSON: the value of each decision on the way, and how its logic came to it.
use Rattle.std.specs.Prelude.{ℕ, List, [], ◌∷◌, Bool, nat_eq, codes, Option, None, Some, option_map}
use Rattle.std.specs.List.{slice_get, filter, flat_map}
use Rattle.serde_json.specs.Data.{Data, string, object, Items, no_items, item, Members, no_members, member}
use Rattle.feel_value.specs.Json.{json_of}
use Rattle.feel_value.specs.Found.{value_of, ◌>>=◌}
use Rattle.feel_value.specs.declared.feel.Outcome.{Outcome}
use Rattle.feel_text.specs.Expr.{Expr}
use Rattle.feel_text.specs.Meaning.{Bindings}
use Rattle.dmn_table.specs.Table.{Table}
use Rattle.dmn_graph.specs.Reach.{has_same}
use Rattle.dmn_form.specs.Model.{Name, Boxed, Decision}
use Rattle.dmn_service.specs.Decision.{Given, bindings_to}
use Rattle.dmn_service.specs.Places.{needs_at}
use Rattle.dmn_service.specs.Plan.{decision_of}
use Rattle.dmn_service.specs.declared.plan.Item.{Item}
use Rattle.dmn_service.specs.declared.plan.ServicePlan.{ServicePlan}
use Rattle.dmn_explain.specs.How.{valued, members_from, named_as, how}

-- the parameters of a service with the values that are given for them
abbrev pub inputs_told : Given → Members
inputs_told [] = no_members
inputs_told (g ∷ gs) = member g.0 (json_of g.1) (inputs_told gs)

-- nothing where a decision needs what broke a limit
abbrev pub how_under : Bool → Option Bindings → Boxed Expr Table → Members
how_under with_misses m b = members_from (how with_misses b) m

-- a decision, where names have these outcomes
abbrev pub decision_told : Bool → (Name → Outcome) → Decision Expr Table → Data
decision_told with_misses outcome d = named_as d.name (value_of (outcome d.name)) (how_under with_misses (bindings_to outcome d.needs) d.logic)

-- a decision whose value was given
abbrev pub given_told : (Name → Outcome) → Decision Expr Table → Data
given_told outcome d = object (member (codes "name") (string d.name) (valued (codes "given") (value_of (outcome d.name)) no_members))

-- the decision at a place; None where an input stands there, or nothing
abbrev pub decision_at : List Item → ℕ → Option (Decision Expr Table)
decision_at items q = slice_get items q >>= decision_of items

-- the thing in front, where there is one
abbrev pub item_if : Option Data → Items → Items
item_if None rest = rest
item_if (Some d) rest = item d rest

-- of each place the decision, as it is told; then the rest
abbrev pub places_told : (Decision Expr Table → Data) → List Item → List ℕ → Items → Items
places_told tell items [] rest = rest
places_told tell items (q ∷ qs) rest = item_if (option_map tell (decision_at items q)) (places_told tell items qs rest)

-- the parameters that some decision of the plan's order needs
abbrev pub needed_parameters : List Item → ServicePlan → List ℕ
needed_parameters items plan = filter (has_same nat_eq (flat_map (needs_at items) plan.order.items)) plan.parameters.items

-- The input decisions, whose values are given, as far as a decision of the plan's order needs them; and then each decision of that
-- order: each once, behind those that it needs.
abbrev pub decisions_told : Bool → (Name → Outcome) → List Item → ServicePlan → Items
decisions_told with_misses outcome items plan =
    places_told (given_told outcome) items (needed_parameters items plan)
    (places_told (decision_told with_misses outcome) items plan.order.items no_items)
