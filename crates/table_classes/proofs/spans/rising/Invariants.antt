use Rattle.std.proofs.Common.{length, ◌-◌, ◌≡◌, ◌<◌, ◌≤◌, ℕ, true}
use Rattle.table_classes.specs.Spans.{precedes, class_at}
use Rattle.table_classes.proofs.spans.rising.Given as goal

abbrev pub invariant-loop-count : goal.invariant-loop-count
invariant-loop-count l = (1 ≤ l.count) × (l.count ≤ length l.classes) × ((j k : ℕ) → j < k → k < l.count → precedes (class_at l.classes j) (class_at l.classes k) ≡ true)

abbrev pub decreases-loop-count : goal.decreases-loop-count
decreases-loop-count l = length l.classes - l.count
