use Rattle.std.proofs.Common.{◌≡◌, drop, map}
use Rattle.dmn_table.specs.Parts.{rule_view}
use Rattle.dmn_table.specs.RuleOutputs.{rules_view, hits_among}
use Rattle.dmn_table.proofs.Each.{after}
use Rattle.dmn_table.proofs.hits.add_hits.Given as goal

abbrev pub invariant-loop-i : goal.invariant-loop-i
invariant-loop-i l = after (rules_view l.initial.hits.items) (hits_among l.env l.values (map rule_view l.rules)) ≡ after (rules_view l.hits.items) (hits_among l.env l.values (map rule_view (drop l.i l.rules)))
