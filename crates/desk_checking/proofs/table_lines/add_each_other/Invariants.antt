use Rattle.std.proofs.Common.{◌≡◌, ◌++◌, drop, false, map}
use Rattle.std.specs.List.{flat_map}
use Rattle.desk_lines.specs.Lines.{ended}
use Rattle.desk_checking.specs.TableTold.{gap_line}
use Rattle.desk_checking.proofs.table_lines.add_each_other.Given as goal

abbrev pub invariant-loop-gap : goal.invariant-loop-gap
invariant-loop-gap l = l.text.items ++ flat_map ended (map (λ g. gap_line l.words false g.now) (drop l.gap-index l.gaps)) ≡ l.fn.text.items ++ flat_map ended (map (λ g. gap_line l.words false g.now) l.gaps)
