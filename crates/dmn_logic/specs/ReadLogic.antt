-- The logic of decisions, read from the texts that it is written in.
use Rattle.std.specs.Prelude.{ℕ, List, Option, None, Some, option_map}
use Rattle.feel_text.specs.Expr.{Expr}
use Rattle.feel_text.specs.Readings.{expr_of, tests_of, literal_of}
use Rattle.feel_value.specs.Found.{◌>>=◌, each}
use Rattle.dmn_table.specs.Faults.{policy_of}
use Rattle.dmn_table.specs.Table.{Column, Rule, Table}
use Rattle.dmn_form.specs.Model.{Boxed, expression, table, list, context, context_with, Members, no_members, member, Entries, no_entries, entry, Decision}
use Rattle.dmn_form.specs.Draft.{WrittenColumn, WrittenRule, WrittenTable, Logic, Written}

-- the expression of a text, where there is one
abbrev pub read_if : Option (List ℕ) → Option (Option Expr)
read_if None = Some None
read_if (Some s) = option_map Some (expr_of s)

abbrev pub read_column : WrittenColumn → Option Column
read_column c =
    each literal_of c.values >>= λ values.
    read_if c.fallback >>= λ fallback.
    Some (record { name = c.name; values = values; fallback = fallback })

abbrev pub read_rule : WrittenRule → Option Rule
read_rule r =
    each tests_of r.tests >>= λ tests.
    each expr_of r.gives >>= λ gives.
    Some (record { tests = tests; gives = gives })

abbrev pub read_table : WrittenTable → Option Table
read_table t =
    each expr_of t.inputs >>= λ inputs.
    each read_column t.outputs >>= λ outputs.
    each read_rule t.rules >>= λ rules.
    policy_of t.hit >>= λ policy.
    Some (record { policy = policy; inputs = inputs; outputs = outputs; rules = rules })

abbrev mutual
  pub read_logic : Logic → Option (Boxed Expr Table)
  read_logic (expression s) = option_map expression (expr_of s)
  read_logic (table t) = option_map table (read_table t)
  read_logic (list bs) = option_map list (read_members bs)
  read_logic (context es) = option_map context (read_entries es)
  read_logic (context_with es b) = read_entries es >>= λ fs. read_logic b >>= λ c. Some (context_with fs c)

  pub read_members : Members (List ℕ) WrittenTable → Option (Members Expr Table)
  read_members no_members = Some no_members
  read_members (member b bs) = read_logic b >>= λ c. read_members bs >>= λ cs. Some (member c cs)

  pub read_entries : Entries (List ℕ) WrittenTable → Option (Entries Expr Table)
  read_entries no_entries = Some no_entries
  read_entries (entry n b es) = read_logic b >>= λ c. read_entries es >>= λ fs. Some (entry n c fs)

abbrev pub read_decision : Written → Option (Decision Expr Table)
read_decision d = read_logic d.logic >>= λ logic. Some (record { name = d.name; needs = d.needs; logic = logic })

-- the decisions with their logic read
abbrev pub read_decisions : List Written → Option (List (Decision Expr Table))
read_decisions = each read_decision
