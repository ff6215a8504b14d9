use Rattle.std.proofs.Common.{◌≡◌, ◌<◌, ℕ, length, Some}
use Rattle.std.specs.List.{slice_get}
use Rattle.std.specs.Int.{bit_at}
use Rattle.table_classes.specs.Classes.{IsBlockWord}
use Rattle.table_classes.proofs.classes.rules_of.Given as goal

abbrev pub invariant-loop-block : goal.invariant-loop-block
invariant-loop-block l = record {
  count : length l.words.items ≡ l.block-index;
  told : (w word : ℕ) → slice_get l.words.items w ≡ Some word → (i : ℕ) → i < 64 → bit_at word i ≡ 0 → IsBlockWord l.blocks l.place w word;
}
