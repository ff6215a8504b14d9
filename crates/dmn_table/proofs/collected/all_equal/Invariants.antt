use Rattle.std.proofs.Common.{◌≡◌, map, ◌&&◌, option_map}
use Rattle.std.specs.List.{list_all}
use Rattle.feel_value.specs.Comparison.{equal}
use Rattle.feel_value.specs.Logic.{is_yes}
use Rattle.dmn_table.specs.Parts.{column_view}
use Rattle.dmn_table.specs.RuleOutputs.{rules_view, outputs_of}
use Rattle.dmn_table.proofs.Turns.{outputs_from}
use Rattle.dmn_table.proofs.collected.all_equal.Given as goal

abbrev pub invariant-loop-rule : goal.invariant-loop-rule
invariant-loop-rule l = option_map (list_all (λ d. is_yes (equal l.first d))) (outputs_of (map column_view l.outputs) l.env (rules_view l.rules)) ≡ option_map (λ ds. l.all && list_all (λ d. is_yes (equal l.first d)) ds) (outputs_from (map column_view l.outputs) l.env l.rules l.rule-index)
