use Rattle.std.proofs.Common.{◌≡◌, ◌∙◌, refl, sym, ap, subst, arith, get_or, inl, inr, ◌<◌, length}
use Rattle.std.specs.List.{slice_get, All}
use Rattle.std.proofs.lemmas.Option.{get_or_from_slice_get, slice_get-get_or}
use Rattle.dmn_analysis.specs.Sharing.{IsPair, IsPairOf}
use Rattle.dmn_analysis.specs.declared.pairing.Pair.{Pair}
use Rattle.dmn_analysis.proofs.Places.{below_next}
use Rattle.dmn_analysis.proofs.Searches.{not_empty}
use Rattle.dmn_analysis.proofs.Sharings.{last_pair, more_and_more, none_more, one_more, one_more_pair, pair_kept}
use Rattle.dmn_analysis.proofs.pairing.add_pairs_with.Goals as goal

pub loop-first-preserved : goal.loop-first-preserved
loop-first-preserved c =
    let rules = c.args.rules.now in
    let old = c.loop-first.pairs.items in
    let new = c.push.new.self.items in
    let first = c.loop-first.first in
    let second = c.args.second in
    let x = get_or rules first 0 in
    let y = get_or rules second 0 in
    let one : Pair = record { first = x; second = y; shared = c.args.shared } in
    let is = c.in_ok-push.ensures.items in
    let more = one_more old new one is in (
      λ all s there same each.
          let here = ap (λ rs. slice_get rs first) same ∙ slice_get-get_or rules first 0 (omega (arith, c.loop-first-test.true, c.requires)) in
          let also = ap (λ rs. slice_get rs second) same ∙ slice_get-get_or rules second 0 c.requires in
          subst (All (IsPairOf all)) (sym is)
          (one_more_pair all old s c.args.shared first second x y there c.loop-first-test.true here also (c.loop-first.invariant.0 all s there same each)),
      (
        λ none. absurd (not_empty old one (sym is ∙ none)),
        (
          more_and_more c.args.pairs.now.items old new c.loop-first.invariant.1.1.0 more,
          λ i a b less here there.
              elim (below_next i first less) [
                | inl before ↦ pair_kept old new a b more (c.loop-first.invariant.1.1.1 i a b before here there)
                | inr at ↦
                    let is_a : x ≡ a = get_or_from_slice_get rules first a 0 (ap (slice_get rules) (sym at) ∙ here) in
                    let is_b : y ≡ b = get_or_from_slice_get rules second b 0 there in
                    subst (λ z. IsPair new z b) is_a (subst (λ z. IsPair new x z) is_b (last_pair old new one is))
              ],
        ),
      ),
    )

pub loop-first-init : goal.loop-first-init
loop-first-init c = (
  λ all s there same each. each,
  (λ none. refl, (none_more c.args.pairs.now.items, λ i a b less here there. absurd (omega (arith, less)))),
)

pub returns-then-len-ge-MOST_PAIRS-clause-kept : goal.returns-then-len-ge-MOST_PAIRS-clause-kept
returns-then-len-ge-MOST_PAIRS-clause-kept c = c.loop-first.invariant.1.1.0

pub returns-then-len-ge-MOST_PAIRS-clause-all : goal.returns-then-len-ge-MOST_PAIRS-clause-all
returns-then-len-ge-MOST_PAIRS-clause-all c = λ few i a b less here there. absurd (omega (arith, few, c.if-len-ge-MOST_PAIRS.true, c.len.ensures))

pub returns-clause-kept : goal.returns-clause-kept
returns-clause-kept c = c.loop-first.invariant.1.1.0

pub returns-clause-all : goal.returns-clause-all
returns-clause-all c = λ few i a b less here there. c.loop-first.invariant.1.1.1 i a b (omega (arith, less, c.loop-first-test.false)) here there
