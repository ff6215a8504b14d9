use Rattle.std.proofs.Common.{ℕ, List}
use Rattle.std.specs.List.{All}
use Rattle.feel_text.specs.Tests.{Tests}
use Rattle.table_classes.specs.Classes.{TellsBlocks, TellsRules}
use Rattle.table_classes.proofs.classes.rows_from.Given as goal

abbrev pub invariant-loop-place : goal.invariant-loop-place
invariant-loop-place l = (rules : List (List Tests)) (column : ℕ) → TellsBlocks rules column l.classes l.blocks → All (TellsRules rules column) l.rows.items
