use Rattle.std.proofs.Common.{◌≡◌, ◌∙◌, ap, arith, ◌<◌, length, [], ◌∷◌}
use Rattle.std.specs.List.{slice_get}
use Rattle.std.proofs.lemmas.List.{length-append}
use Rattle.std.proofs.lemmas.Option.{slice_get-get_or}
use Rattle.dmn_ranges.proofs.SoundColumns.{wider_more}
use Rattle.dmn_ranges.proofs.wider.either_columns.Goals as goal

pub loop-place-preserved : goal.loop-place-preserved
loop-place-preserved c =
    let one = c.args.one.now in
    let other = c.args.other.now in
    let old = c.loop-place.columns.items in
    let new = c.push.new.self.items in
    let i = c.loop-place.place in
    let o = c.either_column.result in
    let before = c.loop-place.invariant in
    let more = ap length c.in_ok-push.ensures.items ∙ length-append old (o ∷ []) in
    let first : i < length one = omega (arith, c.loop-place-test.true, c.smaller-count.ensures.one) in
    let second : i < length other = omega (arith, c.loop-place-test.true, c.smaller-count.ensures.other) in record {
      count = omega (arith, more, before.count);
      one = wider_more one old new o _ before.one c.in_ok-push.ensures.items (ap (slice_get one) before.count ∙ slice_get-get_or one i _ first) c.either_column.ensures.one;
      other = wider_more other old new o _ before.other c.in_ok-push.ensures.items (ap (slice_get other) before.count ∙ slice_get-get_or other i _ second) c.either_column.ensures.other;
    }
