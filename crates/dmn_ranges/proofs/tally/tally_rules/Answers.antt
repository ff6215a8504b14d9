use Rattle.std.proofs.Common.{map}
use Rattle.dmn_table.specs.Parts.{rule_view}
use Rattle.dmn_ranges.specs.Tables.{tally_rule, tally_rules}
use Rattle.dmn_ranges.proofs.Walks.{walk_on, walk_done}
use Rattle.dmn_ranges.proofs.tally.tally_rules.Goals as goal

pub loop-rule-preserved : goal.loop-rule-preserved
loop-rule-preserved c =
    walk_on (tally_rule c.args.shape c.args.columns.now c.args.names.now) rule_view (tally_rules c.args.shape c.args.columns.now c.args.names.now (map rule_view c.args.rules.now)) c.loop-rule.tally c.tally_rule-tally.result c.args.rules.now c.loop-rule.rule-index c.rule-item.result
    c.loop-rule.invariant c.rule-item.is c.loop-rule-test.true c.tally_rule-tally.ensures

pub returns : goal.returns
returns c =
    walk_done (tally_rule c.args.shape c.args.columns.now c.args.names.now) rule_view (tally_rules c.args.shape c.args.columns.now c.args.names.now (map rule_view c.args.rules.now)) c.loop-rule.tally c.args.rules.now c.loop-rule.rule-index c.loop-rule.invariant c.loop-rule-test.false
