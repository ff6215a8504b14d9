use Rattle.std.proofs.Common.{◌≡◌, ◌++◌, drop, map}
use Rattle.std.specs.List.{flat_map}
use Rattle.desk_lines.specs.Lines.{ended}
use Rattle.dmn_check.specs.NotesView.{findings_view}
use Rattle.desk_checking.specs.Told.{place_line}
use Rattle.desk_checking.proofs.fault_lines.add_places.Given as goal

-- with the lines of the places that are left those of all stand there
abbrev pub invariant-loop-finding : goal.invariant-loop-finding
invariant-loop-finding l =
    l.text.items ++ flat_map ended (map (place_line l.fault) (findings_view (drop l.finding-index l.told.findings.items)))
    ≡ l.fn.text.items ++ flat_map ended (map (place_line l.fault) (findings_view l.told.findings.items))
