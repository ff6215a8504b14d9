use Rattle.std.proofs.Common.{◌≡◌, drop}
use Rattle.dmn_check.specs.LookView.{members_findings_view, entries_findings_view}
use Rattle.dmn_check.specs.Notes.{with_all}
use Rattle.dmn_check.specs.NotesView.{notes_view}
use Rattle.dmn_check.proofs.walk.+walk.Given as goal

abbrev pub invariant-walk_members-loop-index : goal.invariant-walk_members-loop-index
invariant-walk_members-loop-index g l =
    with_all (notes_view l.initial.notes) (members_findings_view (g.L.Look.look l.look) 0 l.members)
    ≡ with_all (notes_view l.notes) (members_findings_view (g.L.Look.look l.look) l.index (drop l.index l.members))

abbrev pub invariant-walk_entries-loop-index : goal.invariant-walk_entries-loop-index
invariant-walk_entries-loop-index g l =
    with_all (notes_view l.initial.notes) (entries_findings_view (g.L.Look.look l.look) 0 l.entries)
    ≡ with_all (notes_view l.notes) (entries_findings_view (g.L.Look.look l.look) l.index (drop l.index l.entries))
