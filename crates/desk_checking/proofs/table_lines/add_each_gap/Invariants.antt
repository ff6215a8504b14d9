use Rattle.std.proofs.Common.{◌≡◌, ◌++◌, drop, map, true}
use Rattle.std.specs.List.{flat_map}
use Rattle.desk_lines.specs.Lines.{ended}
use Rattle.desk_checking.specs.TableTold.{gap_line}
use Rattle.desk_checking.proofs.table_lines.add_each_gap.Given as goal

abbrev pub invariant-loop-gap : goal.invariant-loop-gap
invariant-loop-gap l = l.text.items ++ flat_map ended (map (gap_line l.words true) (drop l.gap-index l.gaps)) ≡ l.fn.text.items ++ flat_map ended (map (gap_line l.words true) l.gaps)
