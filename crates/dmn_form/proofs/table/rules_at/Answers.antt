use Rattle.std.proofs.Common.{refl, sym, ap, ◌∙◌}
use Rattle.std.specs.Option.{option_map}
use Rattle.dmn_form.specs.Draft.{each_in, rule_of}
use Rattle.dmn_form.specs.FormView.{rule_view}
use Rattle.dmn_form.proofs.Readings.{array_found, item_refused, item_turn, items_begun, items_read}
use Rattle.dmn_form.proofs.table.rules_at.Goals as goal

pub loop-item-init : goal.loop-item-init
loop-item-init c = items_begun (each_in rule_of) rule_view c.in_ok-rules.rules.items c.deref-item-items.result.now c.in_ok-rules.ensures.items

pub loop-item-preserved : goal.loop-item-preserved
loop-item-preserved c =
    item_turn rule_of (each_in rule_of) rule_view (λ d ds. refl) _ c.loop-item.rules.items c.push.new.self.items c.in-Some.rule c.deref-item-items.result.now c.loop-item.item-index c.item-item.result
    c.loop-item.invariant c.item-item.is c.loop-item-test.true (sym (ap (option_map rule_view) c.in-Some.is) ∙ c.in_ok-rule.ensures) c.in_ok-push.ensures.items

pub returns-in_default-2 : goal.returns-in_default-2
returns-in_default-2 c =
    item_refused rule_of (each_in rule_of) rule_view (λ d ds. refl) _ c.loop-item.rules.items c.deref-item-items.result.now c.loop-item.item-index c.item-item.result
    c.loop-item.invariant c.item-item.is c.loop-item-test.true (sym (ap (option_map rule_view) c.in_default-2.is) ∙ c.in_ok-rule.ensures)
    ∙ array_found rule_of _ c.in-Some-Array.field-0.now c.in-Some-Array.items c.deref-item-items.result.now c.in-Some-Array.ensures c.in-Some-Array.field-0-is (c.deref-item-items.ensures.value ∙ ap (λ v. v.items) c.in-Some-Array.items-is)

pub returns : goal.returns
returns c =
    items_read (each_in rule_of) rule_view refl _ c.loop-item.rules.items c.deref-item-items.result.now c.loop-item.item-index c.loop-item.invariant c.loop-item-test.false
    ∙ array_found rule_of _ c.in-Some-Array.field-0.now c.in-Some-Array.items c.deref-item-items.result.now c.in-Some-Array.ensures c.in-Some-Array.field-0-is (c.deref-item-items.ensures.value ∙ ap (λ v. v.items) c.in-Some-Array.items-is)
