use Rattle.std.proofs.Common.{◌≡◌, ◌∙◌, sym, ap, subst, inl, inr, arith, length, map, get_or}
use Rattle.std.specs.List.{slice_get, All}
use Rattle.std.proofs.lemmas.List.Elements.{All-push}
use Rattle.std.proofs.lemmas.Option.{same_Some, slice_get-get_or}
use Rattle.dmn_table.specs.Parts.{rule_view}
use Rattle.dmn_analysis.specs.Cells.{AreIn}
use Rattle.dmn_analysis.specs.Claims.{IsGapIn}
use Rattle.dmn_analysis.specs.Joining.{AreMissed}
use Rattle.dmn_analysis.specs.Searching.{AreBare, IsBare}
use Rattle.dmn_analysis.specs.Telling.{IsToldGap, IsVoid}
use Rattle.dmn_analysis.specs.declared.gaps.Bare.{Bare}
use Rattle.dmn_analysis.proofs.Answering.{gap_from}
use Rattle.dmn_analysis.proofs.Places.{All-at, at_place, below_next}
use Rattle.dmn_analysis.proofs.Searches.{grown, last_there}
use Rattle.dmn_analysis.proofs.gap_answers.tell.Goals as goal

pub loop-place-preserved : goal.loop-place-preserved
loop-place-preserved c =
    let bare = c.args.bare.now in
    let place = c.loop-place.place in
    let found = c.loop-place.found.items in
    let gap = c.in-Some-2.gap in
    let one = c.index-bare-place.result in
    let there = at_place bare place one c.loop-place-test.true c.index-bare-place.is in
    let cells : gap.cells.items ≡ c.deref-in-loop-place.result.now = rw c.in-Some-2.is at c.in_ok-gap.ensures.cells in
    let same = cells ∙ c.deref-in-loop-place.ensures.value ∙ ap (λ (b : Bare). b.cells.items) (sym c.index-bare-place.is) in
    let witness = rw c.in-Some-2.is at c.in_ok-gap.ensures.witness in
    let is = c.in_ok-push.ensures.items in (
      (λ s rules all. subst (All (IsToldGap s c.args.count)) (sym is) (All-push (IsToldGap s c.args.count) found gap (c.loop-place.invariant.0 s rules all) (record {
        bare = subst (AreBare s) (sym same) (All-at (IsBare s) bare place one all there);
        witness = subst (λ rs. IsGapIn c.args.count rs gap.values.items) (sym rules) witness;
      }))),
      (λ sure k b less here. elim (below_next k place less) [
        | inl before ↦ elim (c.loop-place.invariant.1 sure k b before here) [
          | inl old ↦ inl (record { place = old.place; gap = old.gap; there = grown found c.push.new.self.items gap is old.place old.gap old.there; same = old.same })
          | inr void ↦ inr void
        ]
        | inr at ↦ inl (record {
          place = length found;
          gap = gap;
          there = ap (λ gs. slice_get gs (length found)) is ∙ last_there found gap;
          same = same ∙ ap (λ (b : Bare). b.cells.items) (same_Some one b (sym there ∙ ap (slice_get bare) (sym at) ∙ here));
        })
      ]),
      c.loop-place.invariant.2,
    )

pub loop-place-preserved-in_default : goal.loop-place-preserved-in_default
loop-place-preserved-in_default c =
    let bare = c.args.bare.now in
    let place = c.loop-place.place in
    let one = c.index-bare-place.result in
    let there = at_place bare place one c.loop-place-test.true c.index-bare-place.is in
    let same = c.deref.ensures.value ∙ ap (λ (b : Bare). b.cells.items) (sym c.index-bare-place.is) in
    let void = subst (IsVoid c.args.words.now) same (c.in_ok-values.ensures.none c.in_default.is) in (
      c.loop-place.invariant.0,
      (λ sure k b less here. elim (below_next k place less) [
        | inl before ↦ c.loop-place.invariant.1 sure k b before here
        | inr at ↦ inr (subst (λ (b : Bare). IsVoid c.args.words.now b.cells.items) (same_Some one b (sym there ∙ ap (slice_get bare) (sym at) ∙ here)) void)
      ]),
      c.loop-place.invariant.2,
    )

pub loop-place-preserved-in_default-2 : goal.loop-place-preserved-in_default-2
loop-place-preserved-in_default-2 c =
    let bare = c.args.bare.now in
    let place = c.loop-place.place in
    let one = c.index-bare-place.result in
    let rules = map rule_view c.args.rules.now in
    let there = at_place bare place one c.loop-place-test.true c.index-bare-place.is in
    let same = c.deref.ensures.value ∙ ap (λ (b : Bare). b.cells.items) (sym c.index-bare-place.is) in
    let long = (rw c.in-Some.is at c.in_ok-values.ensures.long) ∙ ap length same in
    let inside = subst (λ cs. AreIn c.args.words.now cs c.in-Some.values.items) same (rw c.in-Some.is at c.in_ok-values.ensures.inside) in (
      c.loop-place.invariant.0,
      (λ sure k b less here. cc),
      (λ constant all.
          let missed = All-at (AreMissed c.args.words.now rules c.args.count) bare place one all there in
          absurd (c.in_ok-gap.ensures.unless c.in_default-2.is (gap_from c.args.words.now rules c.args.count one c.in-Some.values.items c.requires constant missed long inside))),
    )

pub returns-clause-all : goal.returns-clause-all
returns-clause-all c = λ sure zero k d less. c.loop-place.invariant.1 sure k (get_or c.args.bare.now k d) (omega (arith, less, c.loop-place-test.false)) (slice_get-get_or c.args.bare.now k d less)
