use Rattle.std.proofs.Common.{◌≡◌, ◌∙◌, ap, arith, sym, subst, ◌<◌, length, Some, [], ◌∷◌}
use Rattle.std.specs.List.{slice_get}
use Rattle.std.proofs.lemmas.List.{length-append}
use Rattle.std.proofs.lemmas.Option.{slice_get-get_or}
use Rattle.dmn_ranges.specs.Columns.{IsWider}
use Rattle.dmn_ranges.proofs.SoundColumns.{widers_more}
use Rattle.dmn_ranges.proofs.wider.either_tables.Goals as goal

pub loop-place-preserved : goal.loop-place-preserved
loop-place-preserved c =
    let one = c.args.one.now in
    let other = c.args.other.now in
    let old = c.loop-place.tables.items in
    let new = c.push.new.self.items in
    let i = c.loop-place.place in
    let o = c.in_ok-columns.columns in
    let before = c.loop-place.invariant in
    let more = ap length c.in_ok-push.ensures.items ∙ length-append old (o ∷ []) in
    let first : i < length one = omega (arith, c.loop-place-test.true, c.smaller-count.ensures.one) in
    let second : i < length other = omega (arith, c.loop-place-test.true, c.smaller-count.ensures.other) in
    let x = c.index-one-place.result in
    let y = c.index-other-place.result in record {
      count = omega (arith, more, before.count);
      one = widers_more one old new o x before.one c.in_ok-push.ensures.items (ap (slice_get one) before.count ∙ slice_get-get_or one i x first ∙ ap Some (sym c.index-one-place.is))
          (subst (λ cs. IsWider cs o.items) c.deref.ensures.value c.in_ok-columns.ensures.one);
      other = widers_more other old new o y before.other c.in_ok-push.ensures.items (ap (slice_get other) before.count ∙ slice_get-get_or other i y second ∙ ap Some (sym c.index-other-place.is))
          (subst (λ cs. IsWider cs o.items) c.deref-in-loop-place.ensures.value c.in_ok-columns.ensures.other);
    }
