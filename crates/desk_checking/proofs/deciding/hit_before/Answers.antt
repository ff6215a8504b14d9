use Rattle.std.proofs.Common.{◌≡◌, subst, map, Some, arith, inl, inr}
use Rattle.std.specs.List.{slice_get}
use Rattle.dmn_table.specs.Parts.{rule_view}
use Rattle.desk_checking.proofs.Grouping.{below_next}
use Rattle.desk_checking.proofs.deciding.hit_before.Goals as goal

pub loop-other-preserved : goal.loop-other-preserved
loop-other-preserved c = λ j r less there.
    elim (below_next j c.loop-other.other less) [
      | inl before ↦ c.loop-other.invariant j r before there
      | inr at ↦ c.in_ok-missed.ensures c.if-not-missed.false r (subst (λ k. slice_get (map rule_view c.args.rules.now) k ≡ Some r) at there)
    ]

pub returns : goal.returns
returns c = λ none j r less there. c.loop-other.invariant j r (omega (arith, less, c.loop-other-test.false)) there
