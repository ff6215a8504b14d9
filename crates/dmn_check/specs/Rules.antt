-- The rules that don't fit the columns of their tables.
use Rattle.std.specs.Prelude.{ℕ, List, [], length, Bool, not}
use Rattle.dmn_table.specs.Faults.{fits_columns}
use Rattle.dmn_form.specs.Draft.{WrittenRule, WrittenTable, Draft}
use Rattle.dmn_check.specs.declared.place.Step.TheVariants as step
use Rattle.dmn_check.specs.declared.place.Key.TheVariants as key
use Rattle.dmn_check.specs.declared.finding.Mistake.TheVariants as mistake
use Rattle.dmn_check.specs.Findings.{Finding, behind, here, each_of}
use Rattle.dmn_check.specs.Look.{Look, decisions_findings}

-- the rule has another number of entries than there are columns
abbrev pub is_unfit : ℕ → ℕ → WrittenRule → Bool
is_unfit inputs outputs r = not (fits_columns inputs outputs (length r.tests, length r.gives))

abbrev pub unfit_rule : ℕ → ℕ → WrittenRule → List Finding
unfit_rule inputs outputs r = here mistake.Rule (is_unfit inputs outputs r)

abbrev pub unfit_in_table : WrittenTable → List Finding
unfit_in_table t = behind (step.Key key.Rules) (each_of (unfit_rule (length t.inputs) (length t.outputs)) t.rules)

abbrev pub rules_look : Look
rules_look = record { text = λ s. []; table = unfit_in_table; entries = λ names. [] }

-- each rule that doesn't fit
abbrev pub unfit_rules : Draft → List Finding
unfit_rules m = decisions_findings rules_look m.decisions
