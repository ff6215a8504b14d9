-- Which values come to the columns of the tables of a decision: for each request to a service within the domains of its parameters.
use Rattle.std.specs.Prelude.{◌≡◌, ℕ, List, [], ◌∷◌, ◌++◌, map, Option, None, Some, option_map, Vec, true, ⊤}
use Rattle.std.specs.List.{slice_get, zip}
use Rattle.std.specs.declared.alloc.Global.{Global}
use Rattle.feel_value.specs.Datum.{Datum}
use Rattle.feel_value.specs.Found.{value_of, ◌>>=◌}
use Rattle.feel_value.specs.declared.feel.Outcome.{Outcome}
use Rattle.feel_text.specs.Expr.{Expr}
use Rattle.feel_text.specs.Meaning.{Bindings}
use Rattle.dmn_table.specs.Hits.{values_of}
use Rattle.dmn_table.specs.Table.{Table}
use Rattle.dmn_form.specs.Model.{Boxed, expression, table, list, context, context_with, Members, no_members, member, Entries, no_entries, entry, Decision, Model, Name, Service}
use Rattle.dmn_logic.specs.Boxed.{boxed}
use Rattle.dmn_logic.specs.LogicView.{logic_view}
use Rattle.dmn_service.specs.Decision.{bindings_to, decision_named, outcome_of, parameters_of}
use Rattle.dmn_service.specs.Places.{name_at, needs_at}
use Rattle.dmn_service.specs.Plan.{IsPlanOf}
use Rattle.dmn_service.specs.Run.{Found, logic_at, needed_at}
use Rattle.dmn_service.specs.declared.plan.Item.{Item}
use Rattle.dmn_service.specs.declared.plan.ServicePlan.{ServicePlan}
use Rattle.dmn_ranges.specs.Asking.{AllIn}
use Rattle.dmn_ranges.specs.Ranges.{AreWithin, Fits, Scope, lies_in}
use Rattle.dmn_ranges.specs.Services.{Tells, Told}
use Rattle.dmn_ranges.specs.declared.columns.ToldTables.{ToldTables}
use Rattle.dmn_ranges.specs.declared.outcomes.Outcomes.{Outcomes}
use Rattle.dmn_ranges.specs.declared.range.ParameterRange.{ParameterRange}

-- ---- the tables that are evaluated

-- the names with an entry behind them; None where it breaks a limit
abbrev pub with_entry : Name → Boxed Expr Table → Option Bindings → Option Bindings
with_entry n b m = m >>= λ k. value_of (boxed b k) >>= λ d. Some (k ++ (n, d) ∷ [])

-- the same with all of these, each of which sees the earlier ones
abbrev pub with_entries : Entries Expr Table → Option Bindings → Option Bindings
with_entries no_entries m = m
with_entries (entry n b es) m = with_entries es (with_entry n b m)

-- The tables of a boxed expression, in their order, each with what its names are bound to where it is evaluated. None: it isn't evaluated,
-- since a limit was broken before it.
abbrev mutual
  pub tables_under : Boxed Expr Table → Option Bindings → List (Table × Option Bindings)
  tables_under (expression e) m = []
  tables_under (table t) m = (t, m) ∷ []
  tables_under (list bs) m = member_tables bs m
  tables_under (context es) m = entry_tables es m
  tables_under (context_with es b) m = entry_tables es m ++ tables_under b (with_entries es m)

  pub member_tables : Members Expr Table → Option Bindings → List (Table × Option Bindings)
  member_tables no_members m = []
  member_tables (member b bs) m = tables_under b m ++ member_tables bs m

  pub entry_tables : Entries Expr Table → Option Bindings → List (Table × Option Bindings)
  entry_tables no_entries m = []
  entry_tables (entry n b es) m = tables_under b m ++ entry_tables es (with_entry n b m)

-- ---- what comes to their columns

-- the value of each of these inputs is one that is told of its column
abbrev pub ComeIn : List Outcomes → List Expr → Option Bindings → Type 0
ComeIn columns inputs None = ⊤
ComeIn columns inputs (Some m) = (values : List Datum) → values_of m inputs ≡ Some values
    → (k : ℕ) (o : Outcomes) (v : Datum) → slice_get columns k ≡ Some o → slice_get values k ≡ Some v → lies_in o.range v ≡ true

-- the same of each of these tables
abbrev pub ComeTo : List (Vec Outcomes Global) → List (Table × Option Bindings) → Type 0
ComeTo told tables = (k : ℕ) (columns : Vec Outcomes Global) (t : Table × Option Bindings) → slice_get told k ≡ Some columns → slice_get tables k ≡ Some t → ComeIn columns.items t.0.inputs t.1

-- the tables of a decision, where the names that it needs have these outcomes
abbrev pub decision_tables : (Name → Outcome) → Option (Decision Expr Table) → List (Table × Option Bindings)
decision_tables outcome None = []
decision_tables outcome (Some d) = tables_under d.logic (bindings_to outcome d.needs)

-- For each request whose values lie in the domains: what comes to the tables of a decision is what is told of them.
abbrev pub AreColumnsOf : List Item → ServicePlan → List ParameterRange → List ToldTables → Type 0
AreColumnsOf items plan domains columns =
    (m : Model Expr Table) (s : Service) (values : List Datum) → IsPlanOf m s items plan → AreWithin domains values
    → (k : ℕ) (c : ToldTables) → slice_get columns k ≡ Some c
    → ComeTo c.tables.items (decision_tables (outcome_of m (zip (parameters_of s) values)) (decision_named m.decisions (name_at items c.place)))

-- ---- internal: how they are worked out

-- what is told of one table after another, column by column
abbrev pub AreInputsIn : List Outcomes → List Expr → Option Bindings → Type 0
AreInputsIn columns inputs None = ⊤
AreInputsIn columns inputs (Some m) = (values : List Datum) → values_of m inputs ≡ Some values → AllIn columns values

abbrev pub TellTables : List (Vec Outcomes Global) → List (Table × Option Bindings) → Type 0
TellTables [] [] = ⊤
TellTables [] (p ∷ ps) = ⊥
TellTables (c ∷ cs) [] = ⊥
TellTables (c ∷ cs) (p ∷ ps) = AreInputsIn c.items p.0.inputs p.1 × TellTables cs ps

abbrev pub FitsIf : Scope → Option Bindings → Type 0
FitsIf xs None = ⊤
FitsIf xs (Some m) = Fits xs m

-- what is told of the tables of a boxed expression, behind what was told before
pub record AddsTables (xs : Scope) (b : Boxed Expr Table) (old new : List (Vec Outcomes Global)) : Type 0 where
  pub more : List (Vec Outcomes Global)
  pub is : new ≡ old ++ more
  pub tell : (m : Option Bindings) → FitsIf xs m → TellTables more (tables_under b m)

pub record AddsMembers (xs : Scope) (bs : Members Expr Table) (old new : List (Vec Outcomes Global)) : Type 0 where
  pub more : List (Vec Outcomes Global)
  pub is : new ≡ old ++ more
  pub tell : (m : Option Bindings) → FitsIf xs m → TellTables more (member_tables bs m)

-- the same of entries; and what is told of the names with these behind them
pub record AddsEntries (xs : Scope) (es : Entries Expr Table) (old new : List (Vec Outcomes Global)) (ys : Scope) : Type 0 where
  pub more : List (Vec Outcomes Global)
  pub is : new ≡ old ++ more
  pub tell : (m : Option Bindings) → FitsIf xs m → TellTables more (entry_tables es m)
  pub fit : (m : Option Bindings) → FitsIf xs m → FitsIf ys (with_entries es m)

abbrev pub logic_tables : Option (Boxed Expr Table) → Option Bindings → List (Table × Option Bindings)
logic_tables None m = []
logic_tables (Some b) m = tables_under b m

abbrev pub TellsColumnsUnder : Told → List (Vec Outcomes Global) → (ℕ → Name) → List ℕ → Option (Boxed Expr Table) → Type 0
TellsColumnsUnder told columns name needs logic = (found : Found) → Tells told found → TellTables columns (logic_tables logic (needed_at name found needs))

abbrev pub TellsItemColumns : List Item → Told → Item → List (Vec Outcomes Global) → Type 0
TellsItemColumns items told item columns = TellsColumnsUnder told columns (name_at items) item.needs.items (option_map logic_view item.logic)

abbrev pub TellsPlaceColumns : List Item → Told → ℕ → List (Vec Outcomes Global) → Type 0
TellsPlaceColumns items told q columns = TellsColumnsUnder told columns (name_at items) (needs_at items q) (logic_at items q)

-- what is told of each of these places
abbrev pub TellsEachPlace : List Item → Told → List ToldTables → Type 0
TellsEachPlace items told columns = (k : ℕ) (c : ToldTables) → slice_get columns k ≡ Some c → TellsPlaceColumns items told c.place c.tables.items

-- they stand at these places
abbrev pub StandAt : List ℕ → List ToldTables → Type 0
StandAt order columns = map (λ c. c.place) columns ≡ order

-- ---- what either of two has

-- each value that is told of a column before is told of it then
abbrev pub IsWider : List Outcomes → List Outcomes → Type 0
IsWider old new = (k : ℕ) (o : Outcomes) → slice_get new k ≡ Some o → (p : Outcomes) × (slice_get old k ≡ Some p) × ((v : Datum) → lies_in p.range v ≡ true → lies_in o.range v ≡ true)

abbrev pub AreWider : List (Vec Outcomes Global) → List (Vec Outcomes Global) → Type 0
AreWider old new = (k : ℕ) (c : Vec Outcomes Global) → slice_get new k ≡ Some c → (d : Vec Outcomes Global) × (slice_get old k ≡ Some d) × IsWider d.items c.items
