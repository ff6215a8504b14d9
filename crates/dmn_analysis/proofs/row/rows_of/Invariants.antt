use Rattle.std.proofs.Common.{◌≡◌, ◌++◌, map, drop}
use Rattle.dmn_table.specs.Parts.{rule_view}
use Rattle.dmn_analysis.proofs.row.rows_of.Given as goal

abbrev pub invariant-loop-rule : goal.invariant-loop-rule
invariant-loop-rule l = l.rows.items ++ map rule_view (drop l.rule-index l.rules) ≡ map rule_view l.rules
