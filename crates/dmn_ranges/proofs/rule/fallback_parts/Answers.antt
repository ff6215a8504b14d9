use Rattle.std.proofs.Common.{map}
use Rattle.dmn_table.specs.Parts.{column_view}
use Rattle.dmn_ranges.specs.Tables.{with_fallback, fallback_parts}
use Rattle.dmn_ranges.proofs.Walks.{walk_on, walk_done}
use Rattle.dmn_ranges.proofs.rule.fallback_parts.Goals as goal

pub loop-column-preserved : goal.loop-column-preserved
loop-column-preserved c =
    let xs = c.args.names.now in
    walk_on (with_fallback xs) column_view (fallback_parts xs (map column_view c.args.columns.now)) c.loop-column.parts c.with_fallback-parts.result c.args.columns.now c.loop-column.column-index c.column-item.result
    c.loop-column.invariant c.column-item.is c.loop-column-test.true c.with_fallback-parts.ensures

pub returns : goal.returns
returns c =
    let xs = c.args.names.now in
    walk_done (with_fallback xs) column_view (fallback_parts xs (map column_view c.args.columns.now)) c.loop-column.parts c.args.columns.now c.loop-column.column-index c.loop-column.invariant c.loop-column-test.false
