use Rattle.std.proofs.Common.{◌≡◌, drop, map}
use Rattle.dmn_table.specs.Parts.{rule_view}
use Rattle.dmn_table.specs.RuleOutputs.{rules_view, hits_among}
use Rattle.dmn_table.proofs.Each.{after}
use Rattle.dmn_table.proofs.hits.hits_by_scan.Given as goal

abbrev pub invariant-loop-rule : goal.invariant-loop-rule
invariant-loop-rule l = hits_among l.env l.values (map rule_view l.rules) ≡ after (rules_view l.hits.items) (hits_among l.env l.values (map rule_view (drop l.rule-index l.rules)))
