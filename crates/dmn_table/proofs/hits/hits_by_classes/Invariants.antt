use Rattle.std.proofs.Common.{◌≡◌, ◌*◌, drop, length, map}
use Rattle.dmn_table.specs.Parts.{rule_view}
use Rattle.dmn_table.specs.RuleOutputs.{rules_view, hits_among}
use Rattle.dmn_table.proofs.Each.{after}
use Rattle.dmn_table.proofs.hits.hits_by_classes.Given as goal

abbrev pub invariant-loop-rest : goal.invariant-loop-rest
invariant-loop-rest l = record {
  left : l.rest ≡ drop (64 * l.place) l.rules;
  found : hits_among l.env l.values (map rule_view l.rules) ≡ after (rules_view l.hits.items) (hits_among l.env l.values (map rule_view l.rest));
}

abbrev pub decreases-loop-rest : goal.decreases-loop-rest
decreases-loop-rest l = length l.rest
