use Rattle.feel_text.specs.NameOrder.{AreAll}
use Rattle.feel_text.proofs.name_order.positions.Given as goal

abbrev pub invariant-loop-position : goal.invariant-loop-position
invariant-loop-position l = AreAll l.position l.positions.items
