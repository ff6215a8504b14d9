use Rattle.std.proofs.Common.{◌≡◌, ℕ, ◌<◌, []}
use Rattle.dmn_graph.specs.declared.search.Mark.TheVariants.{Untouched}
use Rattle.dmn_graph.specs.Needs.{needs_view}
use Rattle.dmn_graph.specs.SearchState.{IsSearchOf, mark_at}
use Rattle.dmn_graph.proofs.order.order_of.Given as goal

abbrev pub invariant-loop-place : goal.invariant-loop-place
invariant-loop-place l = record {
  state : IsSearchOf (needs_view l.needs) l.search;
  rest : l.search.trail.items ≡ [];
  touched : (q : ℕ) → q < l.place → mark_at l.search.marks.items q ≡ Untouched → ⊥;
}
