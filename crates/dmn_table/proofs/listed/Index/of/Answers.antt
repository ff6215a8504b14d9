use Rattle.std.specs.Ordering.{int_cmp}
use Rattle.std.specs.BTreeMap.{get, get_by_text}
use Rattle.feel_value.specs.Datum.{number, text}
use Rattle.dmn_table.proofs.Listing.{after_turn}
use Rattle.dmn_table.proofs.listed.Index.of.Goals as goal

pub loop-place-preserved : goal.loop-place-preserved
loop-place-preserved c =
    let ds = c.args.values.now in
    let i = c.loop-place.place in
    let v = c.index-values-place.result in (
      λ z. after_turn ds i v (number z) (get int_cmp c.loop-place.index.numbers z) (get int_cmp c.put.new.self.numbers z) (c.loop-place.invariant.0 z) c.index-values-place.is c.loop-place-test.true (c.in_ok-put.ensures.0 z),
      λ s. after_turn ds i v (text s) (get_by_text c.loop-place.index.texts s) (get_by_text c.put.new.self.texts s) (c.loop-place.invariant.1 s) c.index-values-place.is c.loop-place-test.true (c.in_ok-put.ensures.1 s),
    )
