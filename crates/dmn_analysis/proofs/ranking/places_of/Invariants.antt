use Rattle.std.proofs.Common.{map}
use Rattle.dmn_table.specs.Parts.{column_view}
use Rattle.dmn_analysis.proofs.Ranks.{ArePlacesBelow}
use Rattle.dmn_analysis.proofs.ranking.places_of.Given as goal

abbrev pub invariant-loop-column : goal.invariant-loop-column
invariant-loop-column l = ArePlacesBelow (map column_view l.outputs) l.gives l.places.items l.column
