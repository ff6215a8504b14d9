use Rattle.std.proofs.Common.{◌≡◌, map}
use Rattle.std.specs.Option.{is_some}
use Rattle.dmn_table.specs.Parts.{column_view}
use Rattle.dmn_table.specs.RuleOutputs.{rules_view, outputs_of}
use Rattle.dmn_table.proofs.Turns.{outputs_from}
use Rattle.dmn_table.proofs.collected.have_outputs.Given as goal

abbrev pub invariant-loop-rule : goal.invariant-loop-rule
invariant-loop-rule l = is_some (outputs_of (map column_view l.outputs) l.env (rules_view l.rules)) ≡ is_some (outputs_from (map column_view l.outputs) l.env l.rules l.rule-index)
