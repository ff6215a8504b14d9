use Rattle.std.proofs.Common.{◌≡◌, ◌<◌, ℕ, Some, length}
use Rattle.std.specs.List.{slice_get}
use Rattle.feel_text.specs.declared.class.Class.{Class}
use Rattle.table_classes.specs.Spans.{IsUnsetAt, Stops}
use Rattle.table_classes.proofs.classes.mark_sieved.Given as goal

abbrev pub invariant-loop-k : goal.invariant-loop-k
invariant-loop-k l = record {
  count : length l.words ≡ length l.initial.words;
  kept : (k i : ℕ) → IsUnsetAt l.words k i → IsUnsetAt l.initial.words k i;
  told : (k : ℕ) (c : Class) → k < l.k → slice_get l.classes k ≡ Some c → IsUnsetAt l.words k l.bit → Stops l.sieve c;
}
