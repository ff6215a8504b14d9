use Rattle.std.proofs.Common.{◌≡◌, length, List}
use Rattle.feel_text.specs.Tests.{Tests}
use Rattle.table_classes.specs.Classes.{AreRowsOf, TellsColumns}
use Rattle.table_classes.proofs.classes.rows_of.Given as goal

abbrev pub invariant-loop-k : goal.invariant-loop-k
invariant-loop-k l = record {
  count : length l.rows.items ≡ l.k;
  told : (rules : List (List Tests)) → TellsColumns rules l.columns → AreRowsOf rules l.values l.rows.items;
}
