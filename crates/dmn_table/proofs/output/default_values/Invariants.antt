use Rattle.std.proofs.Common.{◌≡◌, drop, map}
use Rattle.dmn_table.specs.Parts.{column_view}
use Rattle.dmn_table.specs.Result.{default_values}
use Rattle.dmn_table.proofs.Each.{after}
use Rattle.dmn_table.proofs.output.default_values.Given as goal

abbrev pub invariant-loop-output : goal.invariant-loop-output
invariant-loop-output l = default_values (map column_view l.outputs) l.env ≡ after l.values.items (default_values (map column_view (drop l.output-index l.outputs)) l.env)
