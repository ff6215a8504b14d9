use Rattle.std.proofs.Common.{◌∙◌, sym, ap, Some}
use Rattle.feel_value.specs.Found.{each}
use Rattle.dmn_service.specs.Run.{values_in}
use Rattle.dmn_service.proofs.Along.{each_none, each_more}
use Rattle.dmn_service.proofs.outputs.values.Goals as goal

pub returns-in_default : goal.returns-in_default
returns-in_default c =
    let f = values_in c.args.found.now in
    each_none f c.args.places.now c.loop-place.place-index c.loop-place.values.items (each f c.args.places.now) c.loop-place.invariant c.loop-place-test.true (sym c.in_default.ensures)

pub loop-place-preserved : goal.loop-place-preserved
loop-place-preserved c =
    let f = values_in c.args.found.now in
    let here = each_more f c.args.places.now c.loop-place.place-index c.loop-place.values.items c.in_ok-try_clone.field-0 (each f c.args.places.now) c.loop-place.invariant c.loop-place-test.true
    (sym c.in-Some.ensures ∙ ap Some (sym c.in_ok-try_clone.ensures)) in
    rw c.in_ok-push.ensures.items here
