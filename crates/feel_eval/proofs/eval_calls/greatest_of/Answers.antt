use Rattle.std.proofs.Common.{◌∙◌, arith}
use Rattle.std.proofs.lemmas.Int.{ints}
use Rattle.feel_text.specs.Meaning.{greatest}
use Rattle.feel_eval.proofs.ListMembers.{folded_step}
use Rattle.feel_eval.proofs.eval_calls.greatest_of.Goals as goal

pub loop-item-preserved : goal.loop-item-preserved
loop-item-preserved c =
    c.loop-item.invariant
    ∙ folded_step greatest _ _ c.in-Number.x c.in-Some-Number-default.rest.now c.loop-item.item-index c.item-item.result c.item-item.is c.loop-item-test.true c.in-Number.is (grind (arith, ints))
