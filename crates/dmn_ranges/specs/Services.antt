-- Internal but for `not_found` and `told_at`: what is told of the places of a plan, one after another, each from what is told of those that it needs.
use Rattle.std.specs.Prelude.{◌≡◌, ℕ, suc, List, [], ◌∷◌, map, Bool, true, Option, None, Some, option_map, unwrap_or, slice_set}
use denote.Ref.{Bor}
use Rattle.std.specs.List.{list_any, slice_get}
use Rattle.feel_value.specs.Datum.{Datum}
use Rattle.feel_value.specs.Found.{outcome_from}
use Rattle.feel_value.specs.declared.feel.Outcome.TheVariants.{Is}
use Rattle.dmn_form.specs.Model.{Name}
use Rattle.dmn_logic.specs.LogicView.{logic_view}
use Rattle.dmn_service.specs.Places.{name_at}
use Rattle.dmn_service.specs.Run.{Found, outcome_at, filled_by}
use Rattle.dmn_service.specs.declared.plan.Item.{Item}
use Rattle.dmn_ranges.specs.Names.{members_if}
use Rattle.dmn_ranges.specs.Ranges.{Members, Scope, covers, lie_in, members_of}
use Rattle.dmn_ranges.specs.Steps.{nothing, given}
use Rattle.dmn_ranges.specs.Tables.{some_context}
use Rattle.dmn_ranges.specs.declared.outcomes.Outcomes.{Outcomes}
use Rattle.dmn_ranges.specs.declared.range.ParameterRange.{ParameterRange}

-- where nothing is found
abbrev pub not_found : Outcomes
not_found = record { range = nothing; limit = true }

abbrev pub told_at : List Outcomes → ℕ → Outcomes
told_at told q = unwrap_or (slice_get told q) not_found

-- what is told of each place holds of what is found there
abbrev pub TellsFound : List Outcomes → Found → Type 0
TellsFound told found = (q : ℕ) → covers (told_at told q) (outcome_from Is (found q)) ≡ true

-- the same of the members that are known at each place
abbrev pub known_at : List Members → ℕ → Members
known_at known q = unwrap_or (slice_get known q) []

abbrev pub lie_if : Members → Option Datum → Bool
lie_if ms None = true
lie_if ms (Some d) = lie_in ms d

abbrev pub KnowsFound : List Members → Found → Type 0
KnowsFound known found = (q : ℕ) → lie_if (known_at known q) (found q) ≡ true

-- what is told of each place, and of its members
abbrev pub Told : Type 0
Told = List Outcomes × List Members

abbrev pub Tells : Told → Found → Type 0
Tells t found = TellsFound t.0 found × KnowsFound t.1 found

-- the members that are known of parameters
abbrev pub views : List (Option (Bor ParameterRange)) → List Members
views known = map members_if known

abbrev pub given_if : Option ParameterRange → Outcomes
given_if None = not_found
given_if (Some p) = given p.range

-- the domain of a parameter
abbrev pub domain_at : List ParameterRange → ℕ → Outcomes
domain_at domains i = given_if (slice_get domains i)

abbrev pub members_given : Option ParameterRange → Members
members_given None = []
members_given (Some p) = members_of p.members.items

-- at these places the domains from one on
abbrev pub given_told : List ParameterRange → ℕ → List ℕ → List Outcomes → List Outcomes
given_told domains i [] told = told
given_told domains i (q ∷ qs) told = given_told domains (suc i) qs (slice_set told q (domain_at domains i))

abbrev pub given_known : List ParameterRange → ℕ → List ℕ → List Members → List Members
given_known domains i [] known = known
given_known domains i (q ∷ qs) known = given_known domains (suc i) qs (slice_set known q (members_given (slice_get domains i)))

-- the names at these places, each with what is told of its place
abbrev pub needs_scope : (ℕ → Name) → Told → List ℕ → Scope
needs_scope name t qs = map (λ q. (name q, ((told_at t.0 q).range, known_at t.1 q))) qs

-- a limit can be broken at one of these places
abbrev pub needs_limit : List Outcomes → List ℕ → Bool
needs_limit told qs = list_any (λ q. (told_at told q).limit) qs

-- what is told of an item holds of its outcome, wherever what is told of the places that it needs holds
abbrev pub TellsItem : List Item → Told → Item → Outcomes → Type 0
TellsItem items t item o = (found : Found) → Tells t found → covers o (outcome_at (name_at items) found item.needs.items (option_map logic_view item.logic)) ≡ true

-- where what was told of the places holds, what is told then holds once these places are filled
abbrev pub TellsFilled : List Item → List ℕ → Told → Told → Type 0
TellsFilled items order t more = (found : Found) → Tells t found → Tells more (filled_by items order found)

-- the value of the one output, or the context of all
abbrev pub outputs_outcomes : List Outcomes → List ℕ → Outcomes
outputs_outcomes told [] = some_context
outputs_outcomes told (q ∷ []) = told_at told q
outputs_outcomes told (q ∷ p ∷ qs) = some_context
