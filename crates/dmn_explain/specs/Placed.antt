-- Internal: no public contract cites these words. The explanation from what was found at the places of a plan.
use Rattle.std.specs.Prelude.{ℕ, List, [], ◌∷◌, Bool, codes, Option, None, Some, option_map}
use Rattle.std.specs.Arc.{arc_str_bytes}
use Rattle.std.specs.List.{slice_get}
use Rattle.serde_json.specs.Data.{Data, null, string, object, Items, no_items, Members, member, no_members}
use Rattle.feel_value.specs.Datum.{Datum}
use Rattle.feel_value.specs.Json.{json_of}
use Rattle.feel_value.specs.Found.{◌>>=◌}
use Rattle.feel_value.specs.declared.feel.Outcome.{Outcome}
use Rattle.feel_text.specs.Expr.{Expr}
use Rattle.feel_text.specs.Needed.{bindings_from, found_at}
use Rattle.dmn_table.specs.Table.{Table}
use Rattle.dmn_form.specs.Model.{Boxed}
use Rattle.dmn_logic.specs.LogicView.{logic_view}
use Rattle.dmn_service.specs.Places.{name_at}
use Rattle.dmn_service.specs.declared.plan.Item.{Item}
use Rattle.dmn_explain.specs.How.{valued, named_as}
use Rattle.dmn_explain.specs.Explanation.{how_under, item_if}

-- what is said of an item with this logic at this place, from the outcomes at the places
abbrev pub decided_here : Bool → List Outcome → Item → ℕ → Boxed Expr Table → Data
decided_here with_misses found x q b = named_as (arc_str_bytes x.name) (found_at found q) (how_under with_misses (bindings_from found x.named) b)

abbrev pub given_here : List Outcome → Item → ℕ → Data
given_here found x q = object (member (codes "name") (string (arc_str_bytes x.name)) (valued (codes "given") (found_at found q) no_members))

-- nothing is said of an input
abbrev pub item_told : (Item → ℕ → Boxed Expr Table → Data) → ℕ → Item → Option Data
item_told tell q x = option_map (λ l. tell x q (logic_view l)) x.logic

-- of each place what is said of the item there; then the rest
abbrev pub told_by_place : (Item → ℕ → Boxed Expr Table → Data) → List Item → List ℕ → Items → Items
told_by_place tell items [] rest = rest
told_by_place tell items (q ∷ qs) rest = item_if (slice_get items q >>= item_told tell q) (told_by_place tell items qs rest)

abbrev pub given_by_place : List Outcome → List Item → List ℕ → Items → Items
given_by_place found = told_by_place (λ x q b. given_here found x q)

abbrev pub decided_by_place : Bool → List Outcome → List Item → List ℕ → Items
decided_by_place with_misses found items qs = told_by_place (decided_here with_misses found) items qs no_items

-- the value found at a place; null where there is none
abbrev pub value_told : Option Datum → Data
value_told None = null
value_told (Some d) = json_of d

-- of each of these places the value found there, under the name of the item
abbrev pub inputs_by_place : List Outcome → List Item → List ℕ → Members
inputs_by_place found items [] = no_members
inputs_by_place found items (q ∷ qs) = member (name_at items q) (value_told (found_at found q)) (inputs_by_place found items qs)
