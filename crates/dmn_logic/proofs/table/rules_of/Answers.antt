use Rattle.std.proofs.Common.{map, ap, sym, ◌∙◌, ◌∷◌, [], option_map}
use Rattle.std.proofs.lemmas.List.{map-append}
use Rattle.dmn_form.specs.FormView.{rule_view as written_rule}
use Rattle.dmn_table.specs.Parts.{rule_view}
use Rattle.dmn_table.proofs.Each.{each_begun, each_done, each_more, each_none}
use Rattle.dmn_logic.specs.ReadLogic.{read_rule}
use Rattle.dmn_logic.proofs.table.rules_of.Goals as goal

pub loop-rule-init : goal.loop-rule-init
loop-rule-init c = each_begun read_rule written_rule (map rule_view c.in_ok-rules.rules.items) c.args.written.now (ap (map rule_view) c.in_ok-rules.ensures.items)

pub loop-rule-preserved : goal.loop-rule-preserved
loop-rule-preserved c =
    each_more read_rule written_rule _ (map rule_view c.loop-rule.rules.items) (map rule_view c.push.new.self.items) (rule_view c.in-Some.rule) c.args.written.now c.loop-rule.rule-index c.rule-item.result
    c.loop-rule.invariant c.rule-item.is c.loop-rule-test.true (sym c.in_ok-rule.ensures ∙ ap (option_map rule_view) c.in-Some.is)
    (ap (map rule_view) c.in_ok-push.ensures.items ∙ map-append rule_view c.loop-rule.rules.items (c.in-Some.rule ∷ []))

pub returns-in_default : goal.returns-in_default
returns-in_default c =
    each_none read_rule written_rule _ (map rule_view c.loop-rule.rules.items) c.args.written.now c.loop-rule.rule-index c.rule-item.result
    c.loop-rule.invariant c.rule-item.is c.loop-rule-test.true (sym c.in_ok-rule.ensures ∙ ap (option_map rule_view) c.in_default.is)

pub returns : goal.returns
returns c = each_done read_rule written_rule _ (map rule_view c.loop-rule.rules.items) c.args.written.now c.loop-rule.rule-index c.loop-rule.invariant c.loop-rule-test.false
