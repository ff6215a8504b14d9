-- What a look finds in the parts of boxed expressions.
use Rattle.std.specs.Prelude.{ℕ, ◌+◌, List, [], ◌++◌}
use Rattle.dmn_form.specs.Model.{Name, expression, table, list, context, context_with, Members, no_members, member, Entries, no_entries, entry}
use Rattle.dmn_form.specs.Draft.{WrittenTable, Logic, Written}
use Rattle.dmn_names.specs.Parts.{entry_names}
use Rattle.dmn_check.specs.declared.place.Step.TheVariants as step
use Rattle.dmn_check.specs.declared.place.Key.TheVariants as key
use Rattle.dmn_check.specs.Findings.{Finding, behind, each_of}

-- the findings of a text outside of tables, of a table, and of a context by the names of its entries
pub record Look : Type 0 where
  pub text : List ℕ → List Finding
  pub table : WrittenTable → List Finding
  pub entries : List Name → List Finding

-- the findings of each part of a boxed expression
abbrev mutual
  pub logic_findings : Look → Logic → List Finding
  logic_findings k (expression s) = k.text s
  logic_findings k (table t) = behind (step.Key key.Table) (k.table t)
  logic_findings k (list bs) = behind (step.Key key.List) (member_findings k 0 bs)
  logic_findings k (context es) = behind (step.Key key.Context) (k.entries (entry_names es) ++ entry_findings k 0 es)
  logic_findings k (context_with es b) =
      behind (step.Key key.Context) (k.entries (entry_names es) ++ entry_findings k 0 es) ++ behind (step.Key key.Result) (logic_findings k b)

  -- of the members from this index on
  pub member_findings : Look → ℕ → Members (List ℕ) WrittenTable → List Finding
  member_findings k i no_members = []
  member_findings k i (member b bs) = behind (step.Index i) (logic_findings k b) ++ member_findings k (i + 1) bs

  -- of the entries from this index on
  pub entry_findings : Look → ℕ → Entries (List ℕ) WrittenTable → List Finding
  entry_findings k i no_entries = []
  entry_findings k i (entry n b es) = behind (step.Index i) (behind (step.Key key.Expr) (logic_findings k b)) ++ entry_findings k (i + 1) es

-- the findings in the logic of a decision
abbrev pub decision_findings : Look → Written → List Finding
decision_findings k d = behind (step.Key key.Expr) (logic_findings k d.logic)

-- the findings in the logic of the decisions of a model
abbrev pub decisions_findings : Look → List Written → List Finding
decisions_findings k ds = behind (step.Key key.Decisions) (each_of (decision_findings k) ds)
