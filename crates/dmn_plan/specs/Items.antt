-- Internal, cited by no public contract: names, needs and logic of items.
use Rattle.std.specs.Prelude.{◌≡◌, ℕ, List, [], ◌++◌, map, length, Option, option_map}
use Rattle.std.specs.Arc.{arc_str_bytes}
use Rattle.feel_text.specs.Expr.{Expr}
use Rattle.dmn_table.specs.Table.{Table}
use Rattle.dmn_form.specs.Draft.{Draft}
use Rattle.dmn_form.specs.Model.{Name, Boxed}
use Rattle.dmn_logic.specs.LogicView.{logic_view}
use Rattle.dmn_service.specs.declared.plan.Item.{Item}

abbrev pub have_names : List Item → List Name
have_names items = map (λ x. arc_str_bytes x.name) items

abbrev pub have_needs : List Item → List (List ℕ)
have_needs items = map (λ x. x.needs.items) items

abbrev pub have_logic : List Item → List (Option (Boxed Expr Table))
have_logic items = map (λ x. option_map logic_view x.logic) items

abbrev pub have_named : List Item → List (List (Name × ℕ))
have_named items = map (λ x. x.named) items

-- first an empty list for each input, and then a list for each decision
abbrev pub IsAfterInputs : Draft → List (List ℕ) → Type 0
IsAfterInputs m needs = (rest : List (List ℕ)) × (needs ≡ map (λ n. []) m.inputs ++ rest) × (length rest ≡ length m.decisions)
