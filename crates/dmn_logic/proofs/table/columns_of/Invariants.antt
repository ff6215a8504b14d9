use Rattle.std.proofs.Common.{◌≡◌, drop, map}
use Rattle.dmn_form.specs.FormView.{column_view as written_column}
use Rattle.feel_value.specs.Found.{each}
use Rattle.dmn_table.specs.Parts.{column_view}
use Rattle.dmn_table.proofs.Each.{after}
use Rattle.dmn_logic.specs.ReadLogic.{read_column}
use Rattle.dmn_logic.proofs.table.columns_of.Given as goal

abbrev pub invariant-loop-column : goal.invariant-loop-column
invariant-loop-column l = each read_column (map written_column l.written) ≡ after (map column_view l.columns.items) (each read_column (map written_column (drop l.column-index l.written)))
