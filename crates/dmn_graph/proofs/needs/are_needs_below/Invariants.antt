use Rattle.std.proofs.Common.{ℕ, length, All, ◌<◌}
use Rattle.dmn_graph.specs.Needs.{needs_view, needs_of}
use Rattle.dmn_graph.proofs.needs.are_needs_below.Given as goal

abbrev pub invariant-loop-place : goal.invariant-loop-place
invariant-loop-place l = (k : ℕ) → k < l.place → All (λ q. q < length l.needs) (needs_of (needs_view l.needs) k)
