-- What is told of the decisions of a service: cited by a public contract.
use Rattle.std.specs.Prelude.{◌≡◌, List, Bool, true, false, Option, None, Some}
use Rattle.std.specs.List.{slice_get, zip}
use Rattle.feel_value.specs.Datum.{Datum}
use Rattle.feel_value.specs.declared.feel.Outcome.{Outcome}
use Rattle.feel_text.specs.Expr.{Expr}
use Rattle.dmn_table.specs.Table.{Table}
use Rattle.dmn_graph.specs.Reach.{Each}
use Rattle.dmn_form.specs.Model.{Model, Service}
use Rattle.dmn_service.specs.Decision.{parameters_of, outcome_of}
use Rattle.dmn_service.specs.Places.{name_at}
use Rattle.dmn_service.specs.Plan.{IsPlanOf}
use Rattle.dmn_service.specs.declared.plan.Item.{Item}
use Rattle.dmn_service.specs.declared.plan.ServicePlan.{ServicePlan}
use Rattle.dmn_ranges.specs.Ranges.{covers, AreWithin}
use Rattle.dmn_ranges.specs.declared.outcomes.Outcomes.{Outcomes}
use Rattle.dmn_ranges.specs.declared.range.ParameterRange.{ParameterRange}

abbrev pub covered : Option Outcomes → Outcome → Bool
covered None o = false
covered (Some told) o = covers told o

-- For each request whose values lie in the domains, the outcome of each decision is among what is told at its place.
abbrev pub AreRangesOf : List Item → ServicePlan → List ParameterRange → List Outcomes → Type 0
AreRangesOf items plan domains told =
    (m : Model Expr Table) (s : Service) (values : List Datum) → IsPlanOf m s items plan → AreWithin domains values
    → Each (λ q. covered (slice_get told q) (outcome_of m (zip (parameters_of s) values) (name_at items q)) ≡ true) plan.order.items
