use Rattle.std.proofs.Common.{◌≡◌, length, map}
use Rattle.table_classes.specs.Classes.{TellsColumns}
use Rattle.table_classes.proofs.classes.classes_of_columns.Given as goal

abbrev pub invariant-loop-column : goal.invariant-loop-column
invariant-loop-column g l = (length l.columns.items ≡ l.column) × TellsColumns (map g.R.HasTests.tests_of l.rules) l.columns.items
