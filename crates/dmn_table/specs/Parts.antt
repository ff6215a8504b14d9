-- What the parts of the code's tables stand for.
use Rattle.std.specs.Prelude.{◌≡◌, ℕ, List, map, length, Bool, nat_eq, Option, None, Some}
use Rattle.std.specs.Arc.{arc_str_bytes}
use Rattle.std.specs.List.{list_all}
use denote.Ref.{Bor}
use Rattle.feel_text.specs.Expr.{Expr}
use Rattle.dmn_table.specs.declared.fault.TableFault.{TableFault}
use Rattle.dmn_table.specs.declared.hit_policy.HitPolicy.{HitPolicy}
use Rattle.dmn_table.specs.declared.table.Output.{Output}
use Rattle.dmn_table.specs.declared.table.Rule as rule
use Rattle.dmn_table.specs.Faults.{table_fault, policy_of}
use Rattle.dmn_table.specs.Table.{Column, Rule, Table}

abbrev pub column_view : Output → Column
column_view o = record { name = arc_str_bytes o.name; values = o.values.items; fallback = o.fallback }

abbrev pub rule_view : rule.Rule → Rule
rule_view r = record { tests = r.tests.items; gives = r.gives.items }

-- the rules behind references
abbrev pub rules_view : List (Bor rule.Rule) → List Rule
rules_view rules = map (λ r. rule_view r.now) rules

-- each rule has so many output entries
abbrev pub have_entries : ℕ → List Rule → Bool
have_entries n rules = list_all (λ r. nat_eq (length r.gives) n) rules

abbrev pub names_of : List Output → List (List ℕ)
names_of outputs = map (λ o. arc_str_bytes o.name) outputs

-- of each rule, how many tests and how many output entries it has
abbrev pub entry_counts : List rule.Rule → List (ℕ × ℕ)
entry_counts rules = map (λ r. (length r.tests.items, length r.gives.items)) rules

-- the table of these parts
abbrev pub table_of : HitPolicy → List Expr → List Output → List rule.Rule → Table
table_of p inputs outputs rules = record { policy = p; inputs = inputs; outputs = map column_view outputs; rules = map rule_view rules }

-- the first fault of these parts
abbrev pub fault_of_parts : List ℕ → List Expr → List Output → List rule.Rule → Option TableFault
fault_of_parts hit inputs outputs rules = table_fault hit (length inputs) (names_of outputs) (entry_counts rules)

-- these parts make the table t: they have no fault, and t has the policy of this text and just these parts
pub record MakesTable (hit : List ℕ) (inputs : List Expr) (outputs : List Output) (rules : List rule.Rule) (t : Table) : Type 0 where
  pub lawful : fault_of_parts hit inputs outputs rules ≡ None
  pub policy : policy_of hit ≡ Some t.policy
  pub parts : t ≡ table_of t.policy inputs outputs rules
