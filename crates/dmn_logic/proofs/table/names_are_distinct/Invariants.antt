use Rattle.std.proofs.Common.{◌≡◌, map, drop}
use Rattle.std.specs.Arc.{arc_str_bytes}
use Rattle.dmn_names.specs.Names.{have_twice}
use Rattle.dmn_names.proofs.Seen.{twice_after}
use Rattle.dmn_logic.proofs.table.names_are_distinct.Given as goal

abbrev pub invariant-loop-column : goal.invariant-loop-column
invariant-loop-column l = have_twice (map (λ o. arc_str_bytes o.name) l.columns) ≡ twice_after l.seen (map (λ o. arc_str_bytes o.name) (drop l.column-index l.columns))
