use Rattle.std.proofs.Common.{arith}
use Rattle.desk_checking.proofs.DecisionPlaces.{places_begin, places_end, places_turn, within_begin, within_turn}
use Rattle.desk_checking.proofs.decision_inputs.decision_places.Goals as goal

pub loop-place-init : goal.loop-place-init
loop-place-init c = record { within = within_begin c.args.items.now _ c.new-places.ensures.items; named = places_begin c.args.items.now _ c.new-places.ensures.items }

pub loop-place-preserved : goal.loop-place-preserved
loop-place-preserved c =
    let items = c.args.items.now in
    let place = c.loop-place.place in
    let x = c.index-items-place.result in
    let old = c.loop-place.places.items in
    let new = c.add_decision.new.places.items in record {
      within = within_turn items place x.logic old new c.loop-place.invariant.within c.loop-place-test.true c.in_ok-add_decision.ensures;
      named = places_turn items place x old new c.loop-place.invariant.named c.loop-place-test.true c.index-items-place.is c.in_ok-add_decision.ensures;
    }

pub returns : goal.returns
returns c = record {
  within = c.loop-place.invariant.within;
  named = places_end c.args.items.now c.loop-place.place c.loop-place.places.items c.loop-place.invariant.named (omega (arith, c.loop-place-test.false));
}
