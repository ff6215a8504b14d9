use Rattle.std.proofs.Common.{sym, ap, subst, length, arith, inl, inr}
use Rattle.std.proofs.lemmas.List.{length-map}
use Rattle.dmn_table.specs.Parts.{rule_view}
use Rattle.desk_checking.specs.Deciding.{CanDecide}
use Rattle.desk_checking.proofs.Grouping.{below_next}
use Rattle.desk_checking.proofs.deciding.find_idle.Goals as goal

pub loop-rule-preserved : goal.loop-rule-preserved
loop-rule-preserved c = λ none i less.
    let before = c.in_ok-add_unless.ensures none in
    elim (below_next i c.loop-rule.rule less) [
      | inl earlier ↦ c.loop-rule.invariant before.0 i earlier
      | inr at ↦ subst (CanDecide c.args.table.now) (sym at) (c.in_ok-decides.ensures before.1)
    ]

pub returns : goal.returns
returns c = λ none i less.
    let all = c.rules-rules.result.now in
    c.loop-rule.invariant none i (omega (arith, less, ap length c.rules-rules.ensures.rules, length-map all rule_view, c.loop-rule-test.false))
