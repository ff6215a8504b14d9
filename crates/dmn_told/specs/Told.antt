-- What is told of a service: for all requests within the domains.
use Rattle.std.specs.Prelude.{◌≡◌, List, [], ◌∷◌, reverse, true, bytes_eq, string_bytes, ℕ, ⊤}
use Rattle.std.specs.List.{All, slice_get, zip}
use Rattle.feel_value.specs.Datum.{Datum}
use Rattle.feel_value.specs.Limits.{is_value}
use Rattle.dmn_form.specs.Model.{Name}
use Rattle.dmn_graph.specs.Reach.{Each}
use Rattle.dmn_service.specs.Decision.{parameters_of, outcome_of}
use Rattle.dmn_service.specs.Places.{name_at}
use Rattle.dmn_plan.specs.ReadModel.{read_text}
use Rattle.dmn_plan.specs.Request.{request_result}
use Rattle.dmn_plan.specs.Served.{IsServicePlan}
use Rattle.dmn_ranges.specs.Decisions.{covered}
use Rattle.dmn_ranges.specs.Domains.{meets}
use Rattle.dmn_ranges.specs.Ranges.{covers, reached}
use Rattle.feel_text.specs.Tests.{Tests}
use Rattle.dmn_told.specs.Parts.{parts}
use Rattle.dmn_told.specs.declared.domains.Domain.{Domain}
use Rattle.dmn_told.specs.declared.told.ServiceTold.{ServiceTold}

-- Of a value of this name, what a path leads to meets the tests, if it begins with the name.
abbrev pub IsMetAlong : List Name → Name → Tests → Datum → Type 0
IsMetAlong [] n t v = ⊤
IsMetAlong (p ∷ path) n t v = bytes_eq p n ≡ true → meets t (reached (reverse path) v) ≡ true

-- a value of this name meets all that is declared under it, and under the paths into it
abbrev pub IsMet : List Domain → Name → Datum → Type 0
IsMet ds n v = All (λ d. IsMetAlong (parts (string_bytes d.name)) n d.tests v) ds

-- these are values of these names, and each meets what is declared
abbrev pub AreMet : List Domain → List Name → List Datum → Type 0
AreMet ds [] [] = Unit {0}
AreMet ds [] (v ∷ vs) = ⊥
AreMet ds (n ∷ ns) [] = ⊥
AreMet ds (n ∷ ns) (v ∷ vs) = (is_value v ≡ true) × IsMet ds n v × AreMet ds ns vs

-- The plan is that of the service. For each request whose values meet what is declared, the outcome of each decision of the plan's
-- order is among what is told at its place, and the result among what is told of the service.
pub record IsToldOf (text : List ℕ) (n : Name) (ds : List Domain) (t : ServiceTold) : Type 0 where
  pub served : IsServicePlan (read_text text) n t.items.now t.plan.now
  pub decisions : (values : List Datum) → AreMet ds (parameters_of served.service) values
      → Each (λ q. covered (slice_get t.decisions.items q) (outcome_of served.model (zip (parameters_of served.service) values) (name_at t.items.now q)) ≡ true) t.plan.now.order.items
  pub result : (values : List Datum) → AreMet ds (parameters_of served.service) values
      → covers t.result (request_result (record { text = text; service = n; values = values })) ≡ true
