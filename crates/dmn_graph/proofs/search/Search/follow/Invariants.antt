use Rattle.std.proofs.Common.{reverse}
use Rattle.dmn_graph.specs.Needs.{needs_view}
use Rattle.dmn_graph.specs.SearchState.{IsSearchOf, KeepsTouched, steps_left}
use Rattle.dmn_graph.proofs.search.Search.follow.Given as goal

abbrev pub invariant-loop-visit : goal.invariant-loop-visit
invariant-loop-visit l = record { state : IsSearchOf (needs_view l.needs) l.self; touched : KeepsTouched l.initial.self.marks.items l.self.marks.items }

abbrev pub decreases-loop-visit : goal.decreases-loop-visit
decreases-loop-visit l = steps_left (needs_view l.needs) l.self.marks.items (reverse l.self.trail.items)
