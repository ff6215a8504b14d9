-- The tables that are refused.
use Rattle.std.specs.Prelude.{List, [], ◌∷◌, map, length, Option, None, Some}
use Rattle.dmn_table.specs.Faults.{table_fault}
use Rattle.dmn_table.specs.declared.fault.TableFault.{TableFault}
use Rattle.dmn_form.specs.Draft.{WrittenTable, Draft}
use Rattle.dmn_check.specs.declared.finding.Mistake.TheVariants as mistake
use Rattle.dmn_check.specs.Findings.{Finding}
use Rattle.dmn_check.specs.Look.{Look, decisions_findings}

-- the first fault of a table: of its hit policy, its columns, or an operator over several outputs
abbrev pub fault_of_table : WrittenTable → Option TableFault
fault_of_table t = table_fault t.hit (length t.inputs) (map (λ c. c.name) t.outputs) (map (λ r. (length r.tests, length r.gives)) t.rules)

abbrev pub refused : Option TableFault → List Finding
refused None = []
refused (Some f) = record { place = []; mistake = mistake.Table f } ∷ []

abbrev pub refused_look : Look
refused_look = record { text = λ s. []; table = λ t. refused (fault_of_table t); entries = λ names. [] }

-- each table that is refused, with its fault
abbrev pub refused_tables : Draft → List Finding
refused_tables m = decisions_findings refused_look m.decisions
