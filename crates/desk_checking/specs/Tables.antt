-- The decision tables of a model, in their order, each with its place.
use Rattle.std.specs.Prelude.{ℕ, ◌+◌, List, [], ◌∷◌, ◌++◌, map}
use Rattle.feel_text.specs.Expr.{Expr}
use Rattle.dmn_table.specs.Table.{Table}
use Rattle.dmn_form.specs.Model.{Boxed, expression, table, list, context, context_with, Members, no_members, member, Entries, no_entries, entry, Decision, Model}
use Rattle.dmn_check.specs.declared.place.Key.TheVariants as key
use Rattle.dmn_check.specs.declared.place.Step.{Step}
use Rattle.dmn_check.specs.declared.place.Step.TheVariants as step

-- a table, with the steps to it from the whole model
pub record Placed : Type 0 where
  pub place : List Step
  pub table : Table

abbrev pub behind : List Step → Step → List Step
behind place s = place ++ s ∷ []

-- the tables of the boxed expression at a place
abbrev mutual
  pub tables_in : List Step → Boxed Expr Table → List Placed
  tables_in at (expression e) = []
  tables_in at (table t) = record { place = behind at (step.Key key.Table); table = t } ∷ []
  tables_in at (list bs) = member_tables (behind at (step.Key key.List)) 0 bs
  tables_in at (context es) = entry_tables (behind at (step.Key key.Context)) 0 es
  tables_in at (context_with es b) = entry_tables (behind at (step.Key key.Context)) 0 es ++ tables_in (behind at (step.Key key.Result)) b

  -- of the members from this index on
  pub member_tables : List Step → ℕ → Members Expr Table → List Placed
  member_tables at i no_members = []
  member_tables at i (member b bs) = tables_in (behind at (step.Index i)) b ++ member_tables at (i + 1) bs

  -- of the entries from this index on
  pub entry_tables : List Step → ℕ → Entries Expr Table → List Placed
  entry_tables at i no_entries = []
  entry_tables at i (entry n b es) = tables_in (behind (behind at (step.Index i)) (step.Key key.Expr)) b ++ entry_tables at (i + 1) es

-- the steps to the logic of the decision of this index
abbrev pub decision_place : ℕ → List Step
decision_place i = step.Key key.Decisions ∷ step.Index i ∷ step.Key key.Expr ∷ []

-- of the logic of decisions from this index on
abbrev pub logic_tables : ℕ → List (Boxed Expr Table) → List Placed
logic_tables i [] = []
logic_tables i (b ∷ bs) = tables_in (decision_place i) b ++ logic_tables (i + 1) bs

abbrev pub logics_of : List (Decision Expr Table) → List (Boxed Expr Table)
logics_of ds = map (λ d. d.logic) ds

-- the tables of a model: decision by decision, and in each as they stand in its boxed expression
abbrev pub tables_of : Model Expr Table → List Placed
tables_of m = logic_tables 0 (logics_of m.decisions)
