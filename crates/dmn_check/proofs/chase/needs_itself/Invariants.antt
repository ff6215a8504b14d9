use Rattle.dmn_graph.specs.Needs.{needs_view}
use Rattle.dmn_check.specs.Chase.{IsChase, left}
use Rattle.dmn_check.proofs.chase.needs_itself.Given as goal

abbrev pub invariant-loop-next : goal.invariant-loop-next
invariant-loop-next l = IsChase (needs_view l.needs) l.place l.chase

abbrev pub decreases-loop-next : goal.decreases-loop-next
decreases-loop-next l = left l.chase
