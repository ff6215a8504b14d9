use Rattle.std.proofs.Common.{◌≡◌, ◌++◌, drop, map}
use Rattle.std.specs.List.{flat_map}
use Rattle.desk_lines.specs.Lines.{ended}
use Rattle.desk_checking.specs.Told.{refused_line}
use Rattle.desk_checking.proofs.requests.add_refusals.Given as goal

abbrev pub invariant-loop-refused : goal.invariant-loop-refused
invariant-loop-refused l =
    l.text.items ++ flat_map ended (map refused_line (drop l.refused-index l.refusals.first.items))
    ≡ l.fn.text.items ++ flat_map ended (map refused_line l.refusals.first.items)
