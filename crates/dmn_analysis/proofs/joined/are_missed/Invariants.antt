use Rattle.std.proofs.Common.{take}
use Rattle.std.specs.List.{All}
use Rattle.dmn_table.specs.Table.{Rule}
use Rattle.dmn_analysis.specs.Searching.{CannotHit}
use Rattle.dmn_analysis.proofs.joined.are_missed.Given as goal

abbrev pub invariant-loop-row : goal.invariant-loop-row
invariant-loop-row l = All (λ (r : Rule). CannotHit l.words l.cells r) (take l.row-index l.rows)
