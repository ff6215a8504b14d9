use Rattle.std.proofs.Common.{◌≡◌, ◌<◌, ◌≤◌, ℕ, length}
use Rattle.table_classes.specs.Spans.{IsUnsetAt}
use Rattle.table_classes.proofs.spans.set_bits.Given as goal

abbrev pub invariant-loop-k : goal.invariant-loop-k
invariant-loop-k l = (length l.words ≡ length l.initial.words) × ((k i : ℕ) → IsUnsetAt l.words k i → IsUnsetAt l.initial.words k i) × ((k : ℕ) → l.from ≤ k → k < l.k → IsUnsetAt l.words k l.bit → ⊥)
