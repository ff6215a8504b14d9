use Rattle.std.proofs.Common.{◌≡◌, map, drop}
use Rattle.dmn_form.specs.ModelView.{decision_view}
use Rattle.dmn_check.specs.NameFaults.{within_decision}
use Rattle.dmn_check.specs.Findings.{each_from}
use Rattle.dmn_check.specs.Notes.{with_all}
use Rattle.dmn_check.specs.NotesView.{notes_view}
use Rattle.dmn_check.proofs.names.note_decisions.Given as goal

abbrev pub invariant-loop-index : goal.invariant-loop-index
invariant-loop-index l =
    with_all (notes_view l.initial.notes) (each_from (within_decision l.fault) 0 (map decision_view l.decisions))
    ≡ with_all (notes_view l.notes) (each_from (within_decision l.fault) l.index (map decision_view (drop l.index l.decisions)))
