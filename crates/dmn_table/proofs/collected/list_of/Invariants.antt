use Rattle.std.proofs.Common.{◌≡◌, map}
use Rattle.feel_value.specs.Found.{outcome_from}
use Rattle.dmn_table.specs.Parts.{column_view}
use Rattle.dmn_table.specs.Result.{list_of}
use Rattle.dmn_table.specs.RuleOutputs.{rules_view, outputs_of}
use Rattle.dmn_table.proofs.Each.{after}
use Rattle.dmn_table.proofs.Turns.{outputs_from}
use Rattle.dmn_table.proofs.collected.list_of.Given as goal

abbrev pub invariant-loop-rule : goal.invariant-loop-rule
invariant-loop-rule l = outcome_from list_of (outputs_of (map column_view l.outputs) l.env (rules_view l.rules)) ≡ outcome_from list_of (after l.values (outputs_from (map column_view l.outputs) l.env l.rules l.rule-index))
