use Rattle.std.proofs.Common.{◌≡◌, ◌∙◌, ◌<◌, sym, ap, subst, inl, inr, arith, length}
use Rattle.std.specs.List.{slice_get}
use Rattle.std.proofs.lemmas.Option.{same_Some, slice_get_within}
use Rattle.dmn_analysis.specs.declared.pairs.Shared.{Shared}
use Rattle.dmn_analysis.proofs.Places.{All-from_places, at_place, below_next}
use Rattle.dmn_analysis.proofs.Sharings.{not_fewer, pair_kept}
use Rattle.dmn_analysis.proofs.pairing.pairs_of.Goals as goal

pub loop-place-preserved : goal.loop-place-preserved
loop-place-preserved c =
    let all = c.args.all.now in
    let place = c.loop-place.place in
    let one = c.index-all-place.result in
    let there = at_place all place one c.loop-place-test.true c.index-all-place.is in
    let rules = sym c.deref.ensures.value in
    let old = c.loop-place.pairs.items in
    let new = c.add_pairs.new.pairs.items in
    let more = c.in_ok-add_pairs.ensures.kept in (
      c.in_ok-add_pairs.ensures.each all one there rules c.loop-place.invariant.0,
      (
        λ none k s less here.
            let last = c.in_ok-add_pairs.ensures.some none in
            elim (below_next k place less) [
              | inl before ↦ c.loop-place.invariant.1.0 last.0 k s before here
              | inr at ↦ subst (λ (x : Shared). length x.rules.items < 2) (same_Some one s (sym there ∙ ap (slice_get all) (sym at) ∙ here)) (subst (λ xs. length xs < 2) (sym rules) last.1)
            ],
        λ few k i j a b s less here before first second.
            elim (below_next k place less) [
              | inl earlier ↦ pair_kept old new a b more (c.loop-place.invariant.1.1 (omega (arith, few, not_fewer old new more)) k i j a b s earlier here before first second)
              | inr at ↦
                  let is : one ≡ s = same_Some one s (sym there ∙ ap (slice_get all) (sym at) ∙ here) in
                  let same = sym rules ∙ ap (λ (x : Shared). x.rules.items) is in
                  c.in_ok-add_pairs.ensures.all few i j a b before (ap (λ rs. slice_get rs i) same ∙ first) (ap (λ rs. slice_get rs j) same ∙ second)
            ],
      ),
    )

pub returns-clause-some : goal.returns-clause-some
returns-clause-some c = λ none. All-from_places (λ (x : Shared). length x.rules.items < 2) c.args.all.now
    (λ k s here. c.loop-place.invariant.1.0 (c.once-found.ensures.some none) k s (omega (arith, slice_get_within c.args.all.now k s here, c.loop-place-test.false)) here)

pub returns-clause-each : goal.returns-clause-each
returns-clause-each c = c.once-found.ensures.each c.args.all.now c.loop-place.invariant.0

pub returns-clause-all : goal.returns-clause-all
returns-clause-all c = λ sure k i j a b s here before first second.
    c.once-found.ensures.all a b
    (c.loop-place.invariant.1.1 (subst (λ ps. length ps < 100000) c.deref-2.ensures.value (c.are_few-is_all.ensures.few sure)) k i j a b s (omega (arith, slice_get_within c.args.all.now k s here, c.loop-place-test.false)) here before first second)

pub returns-clause-none : goal.returns-clause-none
returns-clause-none c = λ none. c.are_few-is_all.ensures.none (c.deref-2.ensures.value ∙ c.once-found.ensures.some none)
