use Rattle.std.proofs.Common.{◌≡◌, ◌∙◌, sym, ap, [], None, Some, true, false}
use Rattle.dmn_table.specs.Hits.{does_hit}
use Rattle.dmn_table.specs.Parts.{rule_view}
use Rattle.dmn_analysis.proofs.Places.{All-at, at_place}
use Rattle.dmn_analysis.proofs.Turning.{all_of, one_more}
use Rattle.dmn_analysis.proofs.asking.all_miss.Goals as goal

pub loop-rule-preserved : goal.loop-rule-preserved
loop-rule-preserved c =
    let rule = c.rule-item.result in
    one_more (λ r. does_hit [] c.args.values.now (rule_view r) ≡ Some false) c.args.rules.now c.loop-rule.rule-index rule c.loop-rule-test.true c.rule-item.is c.loop-rule.invariant
    (ap (λ m. does_hit m c.args.values.now (rule_view rule)) (sym c.new-env.ensures) ∙ sym c.in_ok-hit.ensures ∙ c.in-Some.is ∙ ap Some c.if-hit.false)

pub returns-clause-each : goal.returns-clause-each
returns-clause-each c = λ _. all_of (λ r. does_hit [] c.args.values.now (rule_view r) ≡ Some false) c.args.rules.now c.loop-rule.rule-index c.loop-rule-test.false c.loop-rule.invariant

pub returns-in_default-clause-all : goal.returns-in_default-clause-all
returns-in_default-clause-all c = λ all.
    let rule = c.rule-item.result in
    let here = All-at (λ r. does_hit [] c.args.values.now (rule_view r) ≡ Some false) c.args.rules.now c.loop-rule.rule-index rule all (at_place c.args.rules.now c.loop-rule.rule-index rule c.loop-rule-test.true c.rule-item.is) in
    let wrong : None ≡ Some false = sym c.in_default.is ∙ c.in_ok-hit.ensures ∙ ap (λ m. does_hit m c.args.values.now (rule_view rule)) c.new-env.ensures ∙ here in cc

pub returns-then-hit-clause-all : goal.returns-then-hit-clause-all
returns-then-hit-clause-all c = λ all.
    let rule = c.rule-item.result in
    let here = All-at (λ r. does_hit [] c.args.values.now (rule_view r) ≡ Some false) c.args.rules.now c.loop-rule.rule-index rule all (at_place c.args.rules.now c.loop-rule.rule-index rule c.loop-rule-test.true c.rule-item.is) in
    let wrong : Some true ≡ Some false = ap Some (sym c.if-hit.true) ∙ sym c.in-Some.is ∙ c.in_ok-hit.ensures ∙ ap (λ m. does_hit m c.args.values.now (rule_view rule)) c.new-env.ensures ∙ here in cc
