use Rattle.std.proofs.Common.{◌≡◌, drop, map}
use Rattle.std.specs.List.{fold}
use Rattle.dmn_table.specs.Parts.{rule_view}
use Rattle.dmn_ranges.specs.Tables.{tally_rule, tally_rules}
use Rattle.dmn_ranges.proofs.tally.tally_rules.Given as goal

abbrev pub invariant-loop-rule : goal.invariant-loop-rule
invariant-loop-rule l = tally_rules l.shape l.columns l.names (map rule_view l.rules) ≡ fold (tally_rule l.shape l.columns l.names) l.tally (map rule_view (drop l.rule-index l.rules))
