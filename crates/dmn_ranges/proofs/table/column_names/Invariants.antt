use Rattle.std.proofs.Common.{◌≡◌, ◌++◌, map, drop}
use Rattle.dmn_table.specs.Parts.{names_of}
use Rattle.dmn_ranges.proofs.table.column_names.Given as goal

abbrev pub invariant-loop-output : goal.invariant-loop-output
invariant-loop-output l = names_of l.outputs ≡ map (λ n. n.now) l.names.items ++ names_of (drop l.output-index l.outputs)
