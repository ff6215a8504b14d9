use Rattle.std.proofs.Common.{◌≡◌, drop, map}
use Rattle.dmn_form.specs.FormView.{rule_view as written_rule}
use Rattle.feel_value.specs.Found.{each}
use Rattle.dmn_table.specs.Parts.{rule_view}
use Rattle.dmn_table.proofs.Each.{after}
use Rattle.dmn_logic.specs.ReadLogic.{read_rule}
use Rattle.dmn_logic.proofs.table.rules_of.Given as goal

abbrev pub invariant-loop-rule : goal.invariant-loop-rule
invariant-loop-rule l = each read_rule (map written_rule l.written) ≡ after (map rule_view l.rules.items) (each read_rule (map written_rule (drop l.rule-index l.written)))
