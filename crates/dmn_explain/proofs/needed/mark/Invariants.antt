use Rattle.std.proofs.Common.{◌≡◌, ℕ, drop, get_or, length, false, ◌||◌}
use Rattle.std.specs.Prelude.{nat_eq}
use Rattle.dmn_graph.specs.Reach.{has_same}
use Rattle.dmn_explain.proofs.needed.mark.Given as goal

abbrev pub invariant-loop-place : goal.invariant-loop-place
invariant-loop-place l = record {
  marks : (q : ℕ) → (has_same nat_eq (drop l.place-index l.places) q || get_or l.marks q false) ≡ (has_same nat_eq l.places q || get_or l.initial.marks q false);
  length : length l.marks ≡ length l.initial.marks;
}
