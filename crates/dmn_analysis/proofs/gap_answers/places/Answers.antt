use Rattle.std.proofs.Common.{◌∙◌, ◌<◌, sym, ap, subst, inl, inr, arith, length, [], ◌∷◌, ◌++◌}
use Rattle.std.specs.List.{slice_get, All}
use Rattle.std.proofs.lemmas.List.{length-append}
use Rattle.std.proofs.lemmas.List.Elements.{All-push}
use Rattle.dmn_analysis.specs.Searching.{IsAmong}
use Rattle.dmn_analysis.specs.Sharing.{IsRising}
use Rattle.dmn_analysis.proofs.Places.{below_next, pushed}
use Rattle.dmn_analysis.proofs.Searches.{among_last, among_more}
use Rattle.dmn_analysis.proofs.Sharings.{rising_push}
use Rattle.dmn_analysis.proofs.gap_answers.places.Goals as goal

pub loop-place-preserved : goal.loop-place-preserved
loop-place-preserved c =
    let old = c.loop-place.places.items in
    let place = c.loop-place.place in
    let is = c.in_ok-push.ensures.items in (
      (
        subst (All (λ r. r < c.args.count)) (sym is) (All-push (λ r. r < c.args.count) old place c.loop-place.invariant.0.0 c.loop-place-test.true),
        ap length is ∙ omega (arith, c.loop-place.invariant.0.1, length-append old (place ∷ [])),
      ),
      (λ r less. subst (λ xs. IsAmong xs r) (sym is) (elim (below_next r place less) [
        | inl before ↦ among_more old place r (c.loop-place.invariant.1 r before)
        | inr at ↦ subst (IsAmong (old ++ place ∷ [])) (sym at) (among_last old place)
      ])),
      subst IsRising (sym is) (rising_push old place c.loop-place.invariant.2 c.loop-place.invariant.3),
      (λ k y here. elim (pushed old place y k (ap (λ xs. slice_get xs k) (sym is) ∙ here)) [
        | inl before ↦ omega (arith, c.loop-place.invariant.3 k y before)
        | inr at ↦ omega (arith, at.1)
      ]),
    )

pub returns-clause-below : goal.returns-clause-below
returns-clause-below c = c.loop-place.invariant.0.0

pub returns-clause-each : goal.returns-clause-each
returns-clause-each c = λ r less. c.loop-place.invariant.1 r (omega (arith, less, c.loop-place-test.false))

pub returns-clause-long : goal.returns-clause-long
returns-clause-long c = omega (arith, c.loop-place.invariant.0.1, c.loop-place-test.false, c.loop-place.auto.place-end)
