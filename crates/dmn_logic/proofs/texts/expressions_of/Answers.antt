use Rattle.std.proofs.Common.{ap, sym, ◌∙◌, string_bytes}
use Rattle.feel_text.specs.Readings.{expr_of}
use Rattle.dmn_table.proofs.Each.{each_begun, each_done, each_more, each_none}
use Rattle.dmn_logic.proofs.texts.expressions_of.Goals as goal

pub loop-text-init : goal.loop-text-init
loop-text-init c = each_begun expr_of string_bytes c.in_ok-expressions.expressions.items c.args.texts.now c.in_ok-expressions.ensures.items

pub loop-text-preserved : goal.loop-text-preserved
loop-text-preserved c =
    each_more expr_of string_bytes _ c.loop-text.expressions.items c.push.new.self.items c.in-Some.expression c.args.texts.now c.loop-text.text-index c.text-item.result
    c.loop-text.invariant c.text-item.is c.loop-text-test.true (ap expr_of (sym c.as_str.ensures.value) ∙ sym c.in_ok-expression.ensures ∙ c.in-Some.is) c.in_ok-push.ensures.items

pub returns-in_default : goal.returns-in_default
returns-in_default c =
    each_none expr_of string_bytes _ c.loop-text.expressions.items c.args.texts.now c.loop-text.text-index c.text-item.result
    c.loop-text.invariant c.text-item.is c.loop-text-test.true (ap expr_of (sym c.as_str.ensures.value) ∙ sym c.in_ok-expression.ensures ∙ c.in_default.is)

pub returns : goal.returns
returns c = each_done expr_of string_bytes _ c.loop-text.expressions.items c.args.texts.now c.loop-text.text-index c.loop-text.invariant c.loop-text-test.false
