use Rattle.std.proofs.Common.{◌+◌, subst, sym}
use Rattle.feel_text.specs.NameOrder.{AreAll}
use Rattle.feel_text.proofs.Ordered.{all_of_more}
use Rattle.feel_text.proofs.name_order.positions.Goals as goal

pub loop-position-preserved : goal.loop-position-preserved
loop-position-preserved c =
    subst (AreAll (c.loop-position.position + 1)) (sym c.in_ok-push.ensures.items) (all_of_more c.loop-position.position c.loop-position.positions.items c.loop-position.invariant)
