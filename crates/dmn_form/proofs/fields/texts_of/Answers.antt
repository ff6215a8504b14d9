use Rattle.std.proofs.Common.{Some, refl, sym, ap, ◌∙◌}
use Rattle.std.specs.Prelude.{string_bytes}
use Rattle.std.specs.Option.{option_map}
use Rattle.dmn_form.specs.Draft.{each_in, text_of, texts_of}
use Rattle.dmn_form.proofs.Readings.{array_of, item_refused, item_turn, items_begun, items_read}
use Rattle.dmn_form.proofs.fields.texts_of.Goals as goal

pub loop-item-init : goal.loop-item-init
loop-item-init c = items_begun (each_in text_of) string_bytes c.in_ok-texts.texts.items c.deref-item-items.result.now c.in_ok-texts.ensures.items

pub loop-item-preserved : goal.loop-item-preserved
loop-item-preserved c =
    item_turn text_of (each_in text_of) string_bytes (λ d ds. refl) _ c.loop-item.texts.items c.push.new.self.items c.in_ok-from_str.field-0 c.deref-item-items.result.now c.loop-item.item-index c.item-item.result
    c.loop-item.invariant c.item-item.is c.loop-item-test.true (ap Some c.in_ok-from_str.ensures.ok ∙ c.in-Some.ensures) c.in_ok-push.ensures.items

pub returns-in_default-text_of : goal.returns-in_default-text_of
returns-in_default-text_of c =
    item_refused text_of (each_in text_of) string_bytes (λ d ds. refl) _ c.loop-item.texts.items c.deref-item-items.result.now c.loop-item.item-index c.item-item.result
    c.loop-item.invariant c.item-item.is c.loop-item-test.true (sym (ap (option_map (λ s. s.now)) c.in_default-text_of.is) ∙ c.text_of.ensures)
    ∙ array_of texts_of c.args.json.now c.in-Array.items c.deref-item-items.result.now c.in-Array.is c.deref-item-items.ensures.value

pub returns : goal.returns
returns c =
    items_read (each_in text_of) string_bytes refl _ c.loop-item.texts.items c.deref-item-items.result.now c.loop-item.item-index c.loop-item.invariant c.loop-item-test.false
    ∙ array_of texts_of c.args.json.now c.in-Array.items c.deref-item-items.result.now c.in-Array.is c.deref-item-items.ensures.value
