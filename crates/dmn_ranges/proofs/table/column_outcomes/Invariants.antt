use Rattle.std.proofs.Common.{◌≡◌, ◌++◌, drop}
use Rattle.dmn_ranges.specs.Tables.{column_outcomes}
use Rattle.dmn_ranges.proofs.table.column_outcomes.Given as goal

abbrev pub invariant-loop-input : goal.invariant-loop-input
invariant-loop-input l = column_outcomes l.names l.inputs ≡ l.columns.items ++ column_outcomes l.names (drop l.input-index l.inputs)
