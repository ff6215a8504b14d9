-- The names of a plan by places: each input and each decision has a place, and what a decision needs is a list of places.
use Rattle.std.specs.Prelude.{ℕ, List, [], map, slice_index_or}
use Rattle.std.specs.Arc.{arc_str_bytes}
use Rattle.dmn_form.specs.Model.{Name}
use Rattle.dmn_service.specs.declared.plan.Item.{Item}

abbrev pub names_of : List Item → List Name
names_of items = map (λ x. arc_str_bytes x.name) items

abbrev pub name_at : List Item → ℕ → Name
name_at items q = slice_index_or (names_of items) q []

abbrev pub needs_at : List Item → ℕ → List ℕ
needs_at items q = slice_index_or (map (λ x. x.needs.items) items) q []

-- these places, each under the name that stands there
abbrev pub named_places : (ℕ → Name) → List ℕ → List (Name × ℕ)
named_places name qs = map (λ q. (name q, q)) qs
