use Rattle.std.proofs.Common.{length, ◌-◌}
use Rattle.dmn_graph.specs.Needs.{needs_view}
use Rattle.dmn_graph.specs.WalkState.{IsReached}
use Rattle.dmn_graph.proofs.walk.reach.Given as goal

abbrev pub invariant-loop-next : goal.invariant-loop-next
invariant-loop-next l = IsReached (needs_view l.needs) l.fn.through l.fn.given l.starts l.walk l.next

abbrev pub decreases-loop-next : goal.decreases-loop-next
decreases-loop-next l = length l.fn.through - l.next
