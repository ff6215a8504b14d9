-- What comes to the decision tables of a model: in each request to its services within the domains.
use Rattle.std.specs.Prelude.{◌≡◌, ◌&&◌, not, ℕ, List, length, Bool, true, false, Option, None, Some, nat_le, ⊤}
use Rattle.std.specs.List.{All, slice_get, zip}
use Rattle.feel_value.specs.Datum.{Datum}
use Rattle.feel_value.specs.Distinct.{is_among}
use Rattle.feel_text.specs.Expr.{Expr}
use Rattle.feel_text.specs.Meaning.{Bindings}
use Rattle.dmn_table.specs.Hits.{values_of}
use Rattle.dmn_table.specs.Table.{Table}
use Rattle.dmn_form.specs.Model.{Decision, Model, Name, Service}
use Rattle.dmn_graph.specs.Reach.{Each}
use Rattle.dmn_service.specs.Decision.{decision_named, outcome_of, parameters_of}
use Rattle.dmn_plan.specs.Request.{service_named}
use Rattle.dmn_analysis.specs.Asked.{is_in_utf8}
use Rattle.dmn_analysis.specs.Claims.{AreAsked}
use Rattle.dmn_analysis.specs.declared.asked.Asked.{Asked}
use Rattle.dmn_ranges.specs.Columns.{decision_tables}
use Rattle.dmn_told.specs.Told.{AreMet}
use Rattle.dmn_told.specs.declared.domains.Domain.{Domain}
use Rattle.desk_checking.specs.Answering.{is_empty}

-- A service needs what has this name: it is an output, or something that the service needs names it; and no request gives its value.
pub data IsNeeded (m : Model Expr Table) (s : Service) : Name → Type 0 where
  output : {n : Name} → is_among s.outputs n ≡ true → IsNeeded m s n
  behind : {n p : Name} {d : Decision Expr Table} → IsNeeded m s n → decision_named m.decisions n ≡ Some d → is_among d.needs p ≡ true → is_among (parameters_of s) p ≡ false → IsNeeded m s p

-- Where a table with these inputs is evaluated, with these values of its names, the values of its inputs are asked about, if their texts are
-- in UTF-8. None: it isn't evaluated.
abbrev pub AreAskedUnder : List Asked → List Expr → Option Bindings → Type 0
AreAskedUnder asked inputs None = ⊤
AreAskedUnder asked inputs (Some m) = (values : List Datum) → values_of m inputs ≡ Some values → All (λ v. is_in_utf8 v ≡ true) values → AreAsked asked values

-- In each request to the service of this name whose values meet what is declared, where it needs the decision of this name: what comes to
-- the decision's table of this number, counted from 0, is asked about.
abbrev pub AsksFrom : Model Expr Table → List Domain → Name → ℕ → List Asked → Name → Type 0
AsksFrom m ds decision k asked service =
    (s : Service) (values : List Datum) → service_named m.services service ≡ Some s → AreMet ds (parameters_of s) values → IsNeeded m s decision
    → (t : Table × Option Bindings) → slice_get (decision_tables (outcome_of m (zip (parameters_of s) values)) (decision_named m.decisions decision)) k ≡ Some t → AreAskedUnder asked t.0.inputs t.1

-- that of each of these services
abbrev pub AsksAll : Model Expr Table → List Domain → List Name → Name → ℕ → List Asked → Type 0
AsksAll m ds services decision k asked = Each (AsksFrom m ds decision k asked) services

-- the most services of which it is looked at what comes from them
abbrev pub most_services : ℕ
most_services = 100

-- whether it is looked at what comes from these services: where something is declared, and there are some and not too many
abbrev pub are_looked_at : List Domain → List Name → Bool
are_looked_at ds services = not (is_empty ds) && (not (is_empty services) && nat_le (length services) most_services)
