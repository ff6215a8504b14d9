use Rattle.std.proofs.Common.{map}
use Rattle.table_classes.specs.Unbroken.{KeepLimits}
use Rattle.table_classes.proofs.ClassWords.{TellsBefore}
use Rattle.table_classes.proofs.classes.word_of_breaking.Given as goal

abbrev pub invariant-loop-i : goal.invariant-loop-i
invariant-loop-i g l = TellsBefore KeepLimits l.i (map g.R.HasTests.tests_of l.rules) l.breaking
