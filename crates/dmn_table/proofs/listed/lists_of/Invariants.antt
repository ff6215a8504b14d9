use Rattle.std.proofs.Common.{◌≡◌, ◌++◌, drop, map}
use Rattle.dmn_table.specs.Listed.{listed_values}
use Rattle.dmn_table.specs.Parts.{column_view}
use Rattle.dmn_table.proofs.listed.lists_of.Given as goal

abbrev pub invariant-loop-output : goal.invariant-loop-output
invariant-loop-output l = listed_values (map column_view l.outputs) ≡ l.lists.items ++ listed_values (map column_view (drop l.output-index l.outputs))
