use Rattle.std.proofs.Common.{map, sym, ◌∙◌}
use Rattle.std.specs.Arc.{arc_str_bytes}
use Rattle.dmn_table.specs.declared.table.Output.{Output}
use Rattle.dmn_names.proofs.Seen.{at_first, after_turn}
use Rattle.dmn_logic.proofs.table.names_are_distinct.Goals as goal

pub loop-column-init : goal.loop-column-init
loop-column-init c = at_first c.new-seen.result (map (λ o. arc_str_bytes o.name) c.args.columns.now) c.new-seen.ensures.empty

pub loop-column-preserved : goal.loop-column-preserved
loop-column-preserved c =
    after_turn (λ (o : Output). arc_str_bytes o.name) c.args.columns.now c.loop-column.column-index c.column-item.result c.as_str.result c.loop-column.seen c.insert.new.self _
    c.loop-column.invariant c.column-item.is c.loop-column-test.true c.as_str.ensures.value c.in_ok-is_new.ensures.updates (sym c.if-not-is_new.false ∙ c.in_ok-is_new.ensures.added)
