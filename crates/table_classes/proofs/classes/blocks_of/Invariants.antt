use Rattle.std.proofs.Common.{◌≡◌, ◌*◌, drop, length, map}
use Rattle.table_classes.specs.Classes.{TellsBlocks}
use Rattle.table_classes.proofs.classes.blocks_of.Given as goal

abbrev pub invariant-loop-word : goal.invariant-loop-word
invariant-loop-word g l = record {
  count : length l.all.items ≡ l.word-index;
  left : l.rest ≡ drop (64 * length l.all.items) l.rules;
  told : TellsBlocks (map g.R.HasTests.tests_of l.rules) l.column l.classes l.all.items;
}
