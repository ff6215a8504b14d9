use Rattle.std.proofs.Common.{◌≡◌, ◌<◌, ◌≤◌, ℕ, false}
use Rattle.table_classes.specs.Spans.{is_of_numbers, class_at}
use Rattle.table_classes.proofs.spans.none_from.Given as goal

abbrev pub invariant-loop-k : goal.invariant-loop-k
invariant-loop-k l = (k : ℕ) → l.place ≤ k → k < l.k → is_of_numbers (class_at l.classes k) ≡ false
