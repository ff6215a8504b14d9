use Rattle.std.proofs.Common.{◌∙◌, refl, sym, ap, arith, inl, inr}
use Rattle.std.specs.List.{slice_get}
use Rattle.std.proofs.lemmas.Option.{slice_get_within}
use Rattle.dmn_analysis.proofs.Places.{below_next}
use Rattle.dmn_analysis.proofs.Sharings.{more_and_more, none_more, not_fewer, pair_kept}
use Rattle.dmn_analysis.proofs.pairing.add_pairs.Goals as goal

pub loop-second-init : goal.loop-second-init
loop-second-init c = (
  λ all s there same each. each,
  (
    λ none. (none, refl),
    (
      none_more c.args.pairs.now.items,
      λ few i j a b less at here there. absurd (omega (arith, less, at)),
    ),
  ),
)

pub loop-second-preserved : goal.loop-second-preserved
loop-second-preserved c =
    let old = c.loop-second.pairs.items in
    let new = c.add_pairs_with.new.pairs.items in
    let more = c.in_ok-add_pairs_with.ensures.kept in (
      λ all s there same each. c.in_ok-add_pairs_with.ensures.each all s there same (c.loop-second.invariant.0 all s there same each),
      (
        λ none. absurd (c.in_ok-add_pairs_with.ensures.some (omega (arith, c.loop-second.auto.second)) none),
        (
          more_and_more c.args.pairs.now.items old new c.loop-second.invariant.1.1.0 more,
          λ few i j a b less next here there.
              elim (below_next j c.loop-second.second next) [
                | inl before ↦ pair_kept old new a b more (c.loop-second.invariant.1.1.1 (omega (arith, few, not_fewer old new more)) i j a b less before here there)
                | inr at ↦ c.in_ok-add_pairs_with.ensures.all few i a b (omega (arith, less, at)) here (ap (slice_get c.args.rules.now) (sym at) ∙ there)
              ],
        ),
      ),
    )

pub returns-clause-some : goal.returns-clause-some
returns-clause-some c = λ none. let last = c.loop-second.invariant.1.0 none in (last.0, omega (arith, last.1, c.loop-second-test.false))

pub returns-clause-all : goal.returns-clause-all
returns-clause-all c = λ few i j a b less here there.
    c.loop-second.invariant.1.1.1 few i j a b less (omega (arith, slice_get_within c.args.rules.now j b there, c.loop-second-test.false)) here there

pub returns-clause-kept : goal.returns-clause-kept
returns-clause-kept c = c.loop-second.invariant.1.1.0
