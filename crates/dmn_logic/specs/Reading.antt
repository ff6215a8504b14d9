-- Internal: no public contract cites these words. What reading the parts of decisions gives, part by part: what was read, or else
-- that some text has no reading, or else that some table is refused.
use Rattle.std.specs.Prelude.{ℕ, List, [], ◌∷◌, map, length, Option, None, Some}
use Rattle.feel_text.specs.Expr.{Expr}
use Rattle.feel_text.specs.Readings.{expr_of}
use Rattle.feel_value.specs.Found.{each}
use Rattle.dmn_table.specs.Faults.{table_fault, policy_of}
use Rattle.dmn_table.specs.Table.{Column, Rule, Table}
use Rattle.dmn_table.specs.declared.fault.TableFault.{TableFault}
use Rattle.dmn_table.specs.declared.hit_policy.HitPolicy.{HitPolicy}
use Rattle.dmn_form.specs.Model.{Name, expression, table, list, context, context_with, Members, no_members, member, members_of, Entries, no_entries, entry, entries_of}
use Rattle.dmn_form.specs.Draft.{WrittenTable, Logic, Written}
use Rattle.dmn_logic.specs.LogicView.{Read}
use Rattle.dmn_logic.specs.ReadLogic.{read_column, read_rule}
use Rattle.dmn_logic.specs.declared.reading.Reading.{Reading}
use Rattle.dmn_logic.specs.declared.reading.Reading.TheVariants.{Found, Refused, Unread}

abbrev pub mapped : {X Y : Type 0} → (X → Y) → Reading X → Reading Y
mapped f (Found x) = Found (f x)
mapped f Refused = Refused
mapped f Unread = Unread

-- both parts; a text without a reading in either counts before a refused table in either
abbrev pub both : {X Y Z : Type 0} → (X → Y → Z) → Reading X → Reading Y → Reading Z
both f (Found x) r = mapped (f x) r
both f Refused (Found y) = Refused
both f Refused Refused = Refused
both f Refused Unread = Unread
both f Unread r = Unread

-- goes on with texts that were read
abbrev pub unless_unread : {X Y : Type 0} → Option X → (X → Reading Y) → Reading Y
unless_unread None f = Unread
unless_unread (Some x) f = f x

-- the table of these parts under a policy, where they have no fault
abbrev pub made_under : Option TableFault → Option HitPolicy → List Expr → List Column → List Rule → Reading Table
made_under None (Some p) inputs outputs rules = Found (record { policy = p; inputs = inputs; outputs = outputs; rules = rules })
made_under None None inputs outputs rules = Refused
made_under (Some f) o inputs outputs rules = Refused

abbrev pub made_table : List ℕ → List Expr → List Column → List Rule → Reading Table
made_table hit inputs outputs rules =
    made_under (table_fault hit (length inputs) (map (λ c. c.name) outputs) (map (λ r. (length r.tests, length r.gives)) rules)) (policy_of hit) inputs outputs rules

abbrev pub table_reading : WrittenTable → Reading Table
table_reading t =
    unless_unread (each expr_of t.inputs) (λ inputs.
    unless_unread (each read_column t.outputs) (λ outputs.
    unless_unread (each read_rule t.rules) (λ rules. made_table t.hit inputs outputs rules)))

-- a context of these entries, with a result
abbrev pub context_of : List (Name × Read) → Read → Read
context_of fs c = context_with (entries_of fs) c

abbrev mutual
  pub logic_reading : Logic → Reading Read
  logic_reading (expression s) = unless_unread (expr_of s) (λ e. Found (expression e))
  logic_reading (table t) = mapped table (table_reading t)
  logic_reading (list bs) = mapped (λ cs. list (members_of cs)) (members_reading bs)
  logic_reading (context es) = mapped (λ fs. context (entries_of fs)) (entries_reading es)
  logic_reading (context_with es b) = both context_of (entries_reading es) (logic_reading b)

  pub members_reading : Members (List ℕ) WrittenTable → Reading (List Read)
  members_reading no_members = Found []
  members_reading (member b bs) = both (λ c cs. c ∷ cs) (logic_reading b) (members_reading bs)

  pub entries_reading : Entries (List ℕ) WrittenTable → Reading (List (Name × Read))
  entries_reading no_entries = Found []
  entries_reading (entry n b es) = both (λ e fs. e ∷ fs) (mapped (λ c. (n, c)) (logic_reading b)) (entries_reading es)

abbrev pub decisions_reading : List Written → Reading (List Read)
decisions_reading [] = Found []
decisions_reading (d ∷ ds) = both (λ c cs. c ∷ cs) (logic_reading d.logic) (decisions_reading ds)
