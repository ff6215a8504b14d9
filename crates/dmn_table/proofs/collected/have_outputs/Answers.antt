use Rattle.std.proofs.Common.{◌+◌, ◌&&◌, map, sym, ap, ◌∙◌}
use Rattle.std.specs.Option.{is_some}
use Rattle.dmn_table.specs.Parts.{column_view, rule_view}
use Rattle.dmn_table.proofs.LawfulValues.{there}
use Rattle.dmn_table.proofs.Turns.{one_there, outputs_from}
use Rattle.dmn_table.proofs.collected.have_outputs.Goals as goal

pub loop-rule-preserved : goal.loop-rule-preserved
loop-rule-preserved c =
    let cs = map column_view c.args.outputs.now in
    let m = c.args.env.now in
    let rs = c.args.rules.now in
    let i = c.loop-rule.rule-index in
    c.loop-rule.invariant ∙ one_there cs m rs i c.rule-item.result c.rule-item.is c.loop-rule-test.true c.in_ok-are_lawful.are_lawful (there cs m (rule_view c.rule-item.result.now) c.lawful_values.new.values.items c.in_ok-are_lawful.are_lawful c.in_ok-are_lawful.ensures)
    ∙ ap (λ b. b && is_some (outputs_from cs m rs (i + 1))) c.if-not-are_lawful.false

pub returns-then-not-are_lawful : goal.returns-then-not-are_lawful
returns-then-not-are_lawful c =
    let cs = map column_view c.args.outputs.now in
    let m = c.args.env.now in
    let rs = c.args.rules.now in
    let i = c.loop-rule.rule-index in
    sym (c.loop-rule.invariant ∙ one_there cs m rs i c.rule-item.result c.rule-item.is c.loop-rule-test.true c.in_ok-are_lawful.are_lawful (there cs m (rule_view c.rule-item.result.now) c.lawful_values.new.values.items c.in_ok-are_lawful.are_lawful c.in_ok-are_lawful.ensures)
    ∙ ap (λ b. b && is_some (outputs_from cs m rs (i + 1))) c.if-not-are_lawful.true)
