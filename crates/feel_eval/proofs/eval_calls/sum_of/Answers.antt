use Rattle.std.proofs.Common.{◌∙◌, ◌+ℤ◌, arith}
use Rattle.std.proofs.lemmas.Int.{ints}
use Rattle.feel_eval.proofs.ListMembers.{folded_step}
use Rattle.feel_eval.proofs.eval_calls.sum_of.Goals as goal

pub loop-item-preserved : goal.loop-item-preserved
loop-item-preserved c = record {
  total = c.loop-item.invariant.total
      ∙ folded_step (λ x y. x +ℤ y) _ _ c.in-Number.x c.in-Some-Number-default.rest.now c.loop-item.item-index c.item-item.result c.item-item.is c.loop-item-test.true c.in-Number.is (omega (arith, ints));
  low = omega (arith, ints);
  high = omega (arith, ints);
}
