use Rattle.std.proofs.Common.{◌∙◌, ◌+◌, ap, length, Some, inl, inr, subst, sym}
use Rattle.std.specs.List.{slice_get}
use Rattle.std.proofs.lemmas.List.{length_push}
use Rattle.std.proofs.lemmas.Option.{slice_get-get_or}
use Rattle.desk_checking.specs.Answering.{IsNarrowed}
use Rattle.desk_checking.proofs.AskedWithin.{pushed}
use Rattle.desk_checking.proofs.narrowed.each_narrower.Goals as goal

pub loop-place-preserved : goal.loop-place-preserved
loop-place-preserved c =
    let comes = c.args.comes.now in
    let kinds = c.args.kinds.now in
    let i = c.loop-place.place in
    let old = c.loop-place.all.items in
    let x = c.in_ok-asked.asked in
    let items = c.in_ok-push.ensures.items in
    let before = c.loop-place.invariant in
    let there = slice_get-get_or comes i c.index-comes-place.result c.loop-place-test.true ∙ ap Some (sym c.index-comes-place.is) in
    let here = subst (λ o. IsNarrowed o (slice_get kinds i) x) (sym there) (subst (λ o. IsNarrowed (Some c.index-comes-place.result) o x) c.asked_at.ensures c.in_ok-asked.ensures) in
    record {
      count = ap length items ∙ length_push old x ∙ ap (λ n. n + 1) before.count;
      narrowed = λ k a at. elim (pushed old x a k (ap (λ (ws : _). slice_get ws k) (sym items) ∙ at)) [
        | inl p ↦ before.narrowed k a p
        | inr q ↦ subst (λ n. IsNarrowed (slice_get comes n) (slice_get kinds n) a) (sym (q.0 ∙ before.count)) (subst (λ b. IsNarrowed (slice_get comes i) (slice_get kinds i) b) q.1 here)
      ];
    }
