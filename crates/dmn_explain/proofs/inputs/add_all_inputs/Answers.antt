use Rattle.std.proofs.Common.{sym, ◌∙◌, get_or}
use Rattle.dmn_service.proofs.Kept.{name_here}
use Rattle.dmn_explain.proofs.GivenInputs.{input_more, inputs_begun, inputs_ended}
use Rattle.dmn_explain.proofs.inputs.add_all_inputs.Goals as goal

pub loop-place-init : goal.loop-place-init
loop-place-init c = inputs_begun c.args.text.now.items c.push.new.self.items _ c.in_ok-push.ensures.items

pub loop-place-preserved : goal.loop-place-preserved
loop-place-preserved c =
    let items = c.args.items.now in
    let places = c.args.places.now in
    let i = c.loop-place.place-index in
    let q = get_or places i 0 in
    let x = c.index-items-place.result in
    let more = c.loop-place-test.true in
    input_more c.loop-place.text.items c.add_input.new.text.items _ c.loop-place.later c.args.found.now items places i c.as_str-name.result.now more c.loop-place.invariant
    (c.as_str-name.ensures.value ∙ sym (name_here items q x (c.requires i 0 more))) c.in_ok-add_input.ensures

pub returns : goal.returns
returns c =
    inputs_ended c.loop-place.text.items c.push-2.new.self.items _ c.loop-place.later c.args.found.now c.args.items.now c.args.places.now c.loop-place.place-index c.loop-place-test.false
    c.loop-place.invariant c.in_ok-push-2.ensures.items
