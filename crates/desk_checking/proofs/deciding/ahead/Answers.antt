use Rattle.std.proofs.Common.{◌≡◌, subst, ap, Some, arith, inl, inr, length}
use Rattle.std.specs.List.{slice_get}
use Rattle.std.proofs.lemmas.List.{length-map}
use Rattle.std.proofs.lemmas.Option.{slice_get_within}
use Rattle.dmn_table.specs.declared.hit_policy.HitPolicy.TheVariants.{Priority}
use Rattle.dmn_table.specs.Parts.{rule_view}
use Rattle.desk_checking.specs.Deciding.{HitsBefore}
use Rattle.desk_checking.proofs.Grouping.{below_next}
use Rattle.desk_checking.proofs.deciding.ahead.Goals as goal

pub loop-other-preserved : goal.loop-other-preserved
loop-other-preserved c = λ s here j r less there hits before.
    elim (below_next j c.loop-other.other less) [
      | inl earlier ↦ c.loop-other.invariant s here j r earlier there hits before
      | inr at ↦
          c.in_ok-after.ensures c.if-not-after.false r s (subst (λ k. slice_get c.args.table.now.rules k ≡ Some r) at there) here hits
          (subst (λ k. HitsBefore Priority c.args.table.now.outputs c.args.env.now k c.args.rule r s) at before)
    ]

pub returns : goal.returns
returns c = λ none s here j r there hits before.
    let all = c.rules-rules.result.now in
    let within = slice_get_within c.args.table.now.rules j r there in
    c.loop-other.invariant s here j r (omega (arith, within, ap length c.rules-rules.ensures.rules, length-map all rule_view, c.loop-other-test.false)) there hits before
