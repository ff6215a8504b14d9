use Rattle.std.proofs.Common.{◌≡◌, ◌*◌, drop, length, map}
use Rattle.table_classes.specs.Classes.{TellsBreaking}
use Rattle.table_classes.proofs.classes.words_of_breaking.Given as goal

abbrev pub invariant-loop-rest : goal.invariant-loop-rest
invariant-loop-rest g l = record {
  left : l.rest ≡ drop (64 * length l.words.items) l.rules;
  told : TellsBreaking (map g.R.HasTests.tests_of l.rules) l.words.items;
}

abbrev pub decreases-loop-rest : goal.decreases-loop-rest
decreases-loop-rest g l = length l.rest
