use Rattle.std.proofs.Common.{◌∙◌, sym, ap₂}
use Rattle.dmn_plan.specs.Identical.{is_same}
use Rattle.dmn_plan.proofs.Sameness.{other_values, values_decide, values_differ, values_end}
use Rattle.dmn_plan.proofs.same.same_values.Goals as goal

pub returns-then-a-b : goal.returns-then-a-b
returns-then-a-b c = values_decide _ _ _ (sym (other_values c.args.a.now c.args.b.now c.if-a-b.true))

pub returns-then-not-same_value : goal.returns-then-not-same_value
returns-then-not-same_value c =
    let other = sym (ap₂ is_same c.value.ensures.same c.value-in-loop-i.ensures.same) ∙ sym c.same_value.ensures ∙ c.if-not-same_value.true in
    let differ = values_differ c.args.a.now c.args.b.now c.loop-i.i c.index-a-i.result c.index-b-i.result c.index-a-i.is c.index-b-i.is c.loop-i-test.true c.if-a-b.false other in
    values_decide _ _ _ (sym (c.loop-i.invariant ∙ differ))

pub returns : goal.returns
returns c = values_decide _ _ _ (sym (c.loop-i.invariant ∙ values_end c.args.a.now c.args.b.now c.loop-i.i c.loop-i-test.false c.if-a-b.false))
