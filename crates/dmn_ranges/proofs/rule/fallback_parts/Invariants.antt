use Rattle.std.proofs.Common.{◌≡◌, drop, map}
use Rattle.std.specs.List.{fold}
use Rattle.dmn_table.specs.Parts.{column_view}
use Rattle.dmn_ranges.specs.Tables.{with_fallback, fallback_parts}
use Rattle.dmn_ranges.proofs.rule.fallback_parts.Given as goal

abbrev pub invariant-loop-column : goal.invariant-loop-column
invariant-loop-column l = fallback_parts l.names (map column_view l.columns) ≡ fold (with_fallback l.names) l.parts (map column_view (drop l.column-index l.columns))
