use Rattle.std.proofs.Common.{◌<◌, ◌∙◌, get_or, length, refl, subst, sym, true}
use Rattle.std.proofs.lemmas.List.{length-set}
use Rattle.dmn_explain.proofs.Marking.{mark_more}
use Rattle.dmn_explain.proofs.needed.mark.Goals as goal

pub loop-place-preserved : goal.loop-place-preserved
loop-place-preserved c =
    let places = c.args.places.now in
    let i = c.loop-place.place-index in
    let marks = c.loop-place.marks in
    let more = c.loop-place-test.true in
    let inside : get_or places i 0 < length marks = subst (λ n. get_or places i 0 < n) (sym c.loop-place.invariant.length) (c.requires i 0 more) in
    record {
      marks = λ q. mark_more places i q marks _ _ more inside refl (c.loop-place.invariant.marks q);
      length = length-set marks (get_or places i 0) true ∙ c.loop-place.invariant.length;
    }
