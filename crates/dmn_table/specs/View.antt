-- Internal: no public contract cites these words. What the code's hits stand for.
use Rattle.std.specs.Prelude.{List}
use Rattle.dmn_table.specs.declared.priority.Ranked.{Ranked}
use Rattle.dmn_table.specs.Hits.{output_of}
use Rattle.dmn_table.specs.RuleOutputs.{value_or_null}
use Rattle.dmn_table.specs.Table.{Column}
use Rattle.dmn_table.specs.declared.priority.Hit as hit
use Rattle.dmn_table.specs.Priority.{Hit}

abbrev pub hit_view : hit.Hit → Hit
hit_view h = record { places = h.places.items; output = h.output }

-- of these values under the columns' names
abbrev pub ranked_hit : List Column → Ranked → Hit
ranked_hit columns r = record { places = r.places.items; output = value_or_null (output_of columns r.values.items) }
