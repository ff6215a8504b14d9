use Rattle.std.proofs.Common.{sym, ◌∙◌}
use Rattle.dmn_table.specs.Parts.{rule_view}
use Rattle.dmn_explain.specs.Numbered.{asked_view}
use Rattle.dmn_explain.proofs.Rows.{found_broken, found_done, found_more, found_passed, rule_there}
use Rattle.dmn_explain.proofs.asking.ask_rules.Goals as goal

pub loop-i-preserved : goal.loop-i-preserved
loop-i-preserved c =
    found_more c.args.with_misses _ (asked_view c.loop-i.asked) c.args.env.now c.args.values.now c.args.rules.now c.loop-i.i c.loop-i.invariant c.index-rules-i.result c.index-rules-i.is c.loop-i-test.true
    c.in-Some.miss (asked_view c.add.new.self) (sym c.in-Some.is ∙ c.in_ok-miss.ensures) c.in_ok-add.ensures

pub returns-in_default : goal.returns-in_default
returns-in_default c =
    found_broken c.args.with_misses _ (asked_view c.loop-i.asked) c.args.env.now c.args.values.now c.args.rules.now c.loop-i.i c.loop-i.invariant c.index-rules-i.result c.index-rules-i.is c.loop-i-test.true
    (sym c.in_default.is ∙ c.in_ok-miss.ensures)

pub returns : goal.returns
returns c = found_done c.args.with_misses _ (asked_view c.loop-i.asked) c.args.env.now c.args.values.now c.args.rules.now c.loop-i.i c.loop-i.invariant c.loop-i-test.false

pub loop-i-preserved-then-leaves_out : goal.loop-i-preserved-then-leaves_out
loop-i-preserved-then-leaves_out c =
    let i = c.loop-i.i in
    let x = c.index-rules-i.result in
    let whole = c.loop-i.invariant in
    found_passed c.args.with_misses _ (asked_view c.loop-i.asked) c.args.env.now c.args.values.now c.args.rules.now i whole x c.index-rules-i.is c.loop-i-test.true c.if-not-with_misses.true
    (c.requires c.args.env.now i (rule_view x) (rule_there c.args.with_misses _ (asked_view c.loop-i.asked) c.args.env.now c.args.values.now c.args.rules.now i whole x c.index-rules-i.is c.loop-i-test.true) (sym c.leaves_out.ensures ∙ c.if-leaves_out.true))
