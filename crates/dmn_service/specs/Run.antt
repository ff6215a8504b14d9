-- Internal: no public contract cites these words. What a run finds at the places of a plan.
use Rattle.std.specs.Prelude.{◌≡◌, true, is_some, ℕ, List, [], ◌∷◌, map, Option, None, Some, option_map, nat_eq, slice_index_or}
use Rattle.std.specs.Map.{update}
use Rattle.std.specs.List.{slice_get}
use Rattle.feel_value.specs.Datum.{Datum, null}
use Rattle.feel_value.specs.declared.feel.Outcome.{Outcome}
use Rattle.feel_value.specs.declared.feel.Outcome.TheVariants.{Is}
use Rattle.feel_text.specs.Expr.{Expr}
use Rattle.feel_text.specs.Meaning.{Bindings}
use Rattle.feel_text.specs.Needed.{bindings_from}
use Rattle.feel_value.specs.Found.{value_of, ◌>>=◌, each, outcome_from}
use Rattle.dmn_table.specs.Hits.{one_or_context}
use Rattle.dmn_table.specs.Table.{Table}
use Rattle.dmn_form.specs.Model.{Name, Boxed}
use Rattle.dmn_graph.specs.Reach.{IsInOrder, has_same}
use Rattle.dmn_logic.specs.Boxed.{boxed}
use Rattle.dmn_logic.specs.LogicView.{logic_view}
use Rattle.dmn_service.specs.Places.{name_at, needs_at}
use Rattle.dmn_service.specs.declared.plan.Item.{Item}

abbrev pub logic_at : List Item → ℕ → Option (Boxed Expr Table)
logic_at items q = slice_index_or (map (λ x. option_map logic_view x.logic) items) q None

-- the value found at each place; None where a limit was broken, or nothing was found
abbrev pub Found : Type 0
Found = ℕ → Option Datum

abbrev pub nothing_found : Found
nothing_found q = None

abbrev pub values_in : List Outcome → Found
values_in found q = slice_get found q >>= value_of

-- the outcome at a place in the place of what was there before
abbrev pub kept_at : Found → ℕ → Outcome → Found
kept_at found q o = update nat_eq found q (value_of o)

-- the names at these places with the values found there
abbrev pub needed_at : (ℕ → Name) → Found → List ℕ → Option Bindings
needed_at name found qs = each (λ q. found q >>= λ v. Some (name q, v)) qs

-- the outcome of a decision's logic under what was found for its needs; an input has none of its own
abbrev pub outcome_at : (ℕ → Name) → Found → List ℕ → Option (Boxed Expr Table) → Outcome
outcome_at name found needs None = Is null
outcome_at name found needs (Some b) = outcome_from (boxed b) (needed_at name found needs)

-- the same under names by places
abbrev pub outcome_under : List Outcome → List (Name × ℕ) → Option (Boxed Expr Table) → Outcome
outcome_under found named None = Is null
outcome_under found named (Some b) = outcome_from (boxed b) (bindings_from found named)

-- these places, one after another, each from what was found before
abbrev pub filled : (ℕ → Name) → (ℕ → List ℕ) → (ℕ → Option (Boxed Expr Table)) → List ℕ → Found → Found
filled name needs logic [] found = found
filled name needs logic (q ∷ qs) found = filled name needs logic qs (kept_at found q (outcome_at name found (needs q) (logic q)))

abbrev pub filled_by : List Item → List ℕ → Found → Found
filled_by items = filled (name_at items) (needs_at items) (logic_at items)

-- the values at the places of the parameters
abbrev pub given_at : List ℕ → List Datum → Found → Found
given_at [] vs found = found
given_at (q ∷ qs) [] found = found
given_at (q ∷ qs) (v ∷ vs) found = given_at qs vs (kept_at found q (Is v))

-- the value of the one output, or the context of all
abbrev pub outputs_at : (ℕ → Name) → Found → List ℕ → Outcome
outputs_at name found qs = outcome_from (one_or_context (map name qs)) (each found qs)

-- Each of these places comes after all that it needs, but for places at which values were found.
pub record AreKnown (items : List Item) (found : Found) (qs : List ℕ) : Type 0 where
  pub seen : List ℕ
  pub behind : IsInOrder nat_eq (needs_at items) seen qs
  pub all : (q : ℕ) → has_same nat_eq seen q ≡ true → is_some (found q) ≡ true
