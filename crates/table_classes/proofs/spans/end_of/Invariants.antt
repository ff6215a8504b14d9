use Rattle.std.proofs.Common.{◌-◌, ◌≡◌, ◌<◌, ◌≤◌, ℕ, true, length}
use Rattle.table_classes.specs.Spans.{is_above, class_at}
use Rattle.table_classes.proofs.spans.end_of.Given as goal

abbrev pub invariant-loop-from : goal.invariant-loop-from
invariant-loop-from l = (l.from ≤ l.to) × (l.to ≤ l.count) × (l.to ≤ length l.classes) × ((k : ℕ) → l.to ≤ k → is_above l.high (class_at l.classes k) ≡ true)

abbrev pub decreases-loop-from : goal.decreases-loop-from
decreases-loop-from l = l.to - l.from
