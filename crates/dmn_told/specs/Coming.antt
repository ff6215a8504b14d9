-- What comes to the decision tables of a model: for all requests to its services within the domains.
use Rattle.std.specs.Prelude.{◌≡◌, ℕ, List, [], ◌∷◌, length, Option, None, Some, option_map, Result, Vec, ⊤}
use Rattle.std.specs.List.{slice_get, zip}
use Rattle.std.specs.declared.alloc.Global.{Global}
use Rattle.feel_value.specs.Datum.{Datum}
use Rattle.feel_text.specs.Expr.{Expr}
use Rattle.dmn_table.specs.Table.{Table}
use Rattle.dmn_form.specs.Model.{Model, Name, Service}
use Rattle.dmn_plan.specs.ReadModel.{read_text}
use Rattle.dmn_plan.specs.Request.{service_in}
use Rattle.dmn_plan.specs.Served.{IsServicePlan}
use Rattle.dmn_plan.specs.declared.fault.ModelFault.{ModelFault}
use Rattle.dmn_ranges.specs.Columns.{AreWider, ComeTo, decision_tables}
use Rattle.dmn_ranges.specs.declared.columns.ToldTables.{ToldTables}
use Rattle.dmn_ranges.specs.declared.outcomes.Outcomes.{Outcomes}
use Rattle.dmn_service.specs.Decision.{decision_named, outcome_of, parameters_of}
use Rattle.dmn_service.specs.Places.{name_at}
use Rattle.dmn_service.specs.declared.plan.Item.{Item}
use Rattle.dmn_service.specs.declared.plan.ServicePlan.{ServicePlan}
use Rattle.dmn_told.specs.Told.{AreMet}
use Rattle.dmn_told.specs.declared.coming.Coming.{Coming}
use Rattle.dmn_told.specs.declared.domains.Domain.{Domain}

-- what is told of the tables of the item at each place; None where no service needs it
abbrev pub ByPlace : Type 0
ByPlace = List (Option (Vec (Vec Outcomes Global) Global))

-- something is told at a place, and that is what comes there in a request to a service with these values
abbrev pub ComesAt : Model Expr Table → Service → List Datum → Name → Option (Option (Vec (Vec Outcomes Global) Global)) → Type 0
ComesAt m s values n None = ⊥
ComesAt m s values n (Some None) = ⊥
ComesAt m s values n (Some (Some tables)) = ComeTo tables.items (decision_tables (outcome_of m (zip (parameters_of s) values)) (decision_named m.decisions n))

-- For each request to a service whose values meet what is declared: what comes to the tables of each decision that the service needs is told at
-- the decision's place.
abbrev pub ComesFrom : List Domain → Model Expr Table → Service → List Item → ServicePlan → ByPlace → Type 0
ComesFrom ds m s items plan told =
    (values : List Datum) → AreMet ds (parameters_of s) values → (k q : ℕ) → slice_get plan.order.items k ≡ Some q → ComesAt m s values (name_at items q) (slice_get told q)

-- of the service of this name, which has this plan
pub record ComesFromService (read : Result (Model Expr Table) ModelFault) (ds : List Domain) (n : Name) (items : List Item) (plan : ServicePlan) (told : ByPlace) : Type 0 where
  pub served : IsServicePlan read n items plan
  pub comes : ComesFrom ds served.model served.service items plan told

-- of each of these services
abbrev pub ComesFromEach : Result (Model Expr Table) ModelFault → List Domain → List Name → List Item → List ServicePlan → ByPlace → Type 0
ComesFromEach read ds [] items [] told = ⊤
ComesFromEach read ds [] items (p ∷ ps) told = ⊥
ComesFromEach read ds (n ∷ ns) items [] told = ⊥
ComesFromEach read ds (n ∷ ns) items (p ∷ ps) told = ComesFromService read ds n items p told × ComesFromEach read ds ns items ps told

pub record IsComing (text : List ℕ) (ds : List Domain) (ns : List Name) (c : Coming) : Type 0 where
  pub plans : List ServicePlan
  pub comes : ComesFromEach (read_text text) ds ns c.items.now plans c.tables.items

-- ---- internal: one decision after another

-- these are the names of the parameters of the service of this name
abbrev pub AreParametersOf : List ℕ → Name → List (List ℕ) → Type 0
AreParametersOf text n names = Some names ≡ option_map parameters_of (service_in (read_text text) n)

-- at a place something is told, and all that is told of these tables
abbrev pub HasTables : Option (Option (Vec (Vec Outcomes Global) Global)) → Vec (Vec Outcomes Global) Global → Type 0
HasTables None tables = ⊥
HasTables (Some None) tables = ⊥
HasTables (Some (Some wide)) tables = AreWider tables.items wide.items

-- what was told before is still told
abbrev pub Keeps : ByPlace → ByPlace → Type 0
Keeps old new = (q : ℕ) (tables : Vec (Vec Outcomes Global) Global) → slice_get old q ≡ Some (Some tables) → HasTables (slice_get new q) tables

-- and all that is told of these decisions
abbrev pub HasEach : List ToldTables → ByPlace → Type 0
HasEach [] told = ⊤
HasEach (c ∷ cs) told = HasTables (slice_get told c.place) c.tables × HasEach cs told

pub record Adds (columns : List ToldTables) (old new : ByPlace) : Type 0 where
  pub keeps : Keeps old new
  pub has : HasEach columns new
  pub count : length new ≡ length old
