use Rattle.std.proofs.Common.{◌∙◌, ◌+◌, ◌-◌, sym, ap, subst, get_or, pos, inl, inr, arith}
use Rattle.std.specs.Prelude.{◌≤ℤ◌}
use Rattle.std.specs.List.{slice_get}
use Rattle.std.proofs.lemmas.Option.{same_Some, slice_get-get_or, slice_get_within}
use Rattle.dmn_analysis.proofs.Places.{below_next}
use Rattle.dmn_analysis.proofs.listing.are_rising.Goals as goal

pub loop-i-preserved : goal.loop-i-preserved
loop-i-preserved c = λ k a b less here there.
    let ns = c.args.numbers.now in
    let i = c.loop-i.i in
    elim (below_next (k + 1) i less) [
      | inl before ↦ c.loop-i.invariant k a b before here there
      | inr at ↦
          let first = same_Some (get_or ns (i - 1) (pos 0)) a (sym (slice_get-get_or ns (i - 1) (pos 0) (omega (arith, c.loop-i-test.true))) ∙ ap (slice_get ns) (omega (arith, at)) ∙ here) in
          let second = same_Some (get_or ns i (pos 0)) b (sym (slice_get-get_or ns i (pos 0) c.loop-i-test.true) ∙ ap (slice_get ns) (sym at) ∙ there) in
          subst (λ x. x ≤ℤ b) first (subst (λ y. get_or ns (i - 1) (pos 0) ≤ℤ y) second (c.is_smaller.ensures.unless c.if-is_smaller.false))
    ]

pub returns : goal.returns
returns c = λ _ k a b here there. c.loop-i.invariant k a b (omega (arith, slice_get_within c.args.numbers.now (k + 1) b there, c.loop-i-test.false)) here there
