use Rattle.std.proofs.Common.{◌≡◌, ◌<◌, ℕ, List, Some, map}
use Rattle.std.specs.List.{slice_get}
use Rattle.feel_text.specs.Tests.{Tests}
use Rattle.table_classes.specs.Spans.{IsUnsetAt}
use Rattle.table_classes.specs.Unbroken.{KeepLimits}
use Rattle.table_classes.proofs.Marked.{TellsMarked}
use Rattle.table_classes.proofs.classes.block_words.Given as goal

abbrev pub invariant-loop-i : goal.invariant-loop-i
invariant-loop-i g l = record {
  marked : TellsMarked l.i (map g.R.HasTests.tests_of l.rules) l.column l.classes l.words.items;
  keeps : (k i : ℕ) (rule : List Tests) → i < 64 → slice_get (map g.R.HasTests.tests_of l.rules) i ≡ Some rule → IsUnsetAt l.words.items k i → KeepLimits rule;
}
