use Rattle.std.proofs.Common.{◌≡◌, map, drop}
use Rattle.dmn_form.specs.ModelView.{service_view}
use Rattle.dmn_check.specs.NameFaults.{within_service}
use Rattle.dmn_check.specs.Findings.{each_from}
use Rattle.dmn_check.specs.Notes.{with_all}
use Rattle.dmn_check.specs.NotesView.{notes_view}
use Rattle.dmn_check.proofs.names.note_services.Given as goal

abbrev pub invariant-loop-index : goal.invariant-loop-index
invariant-loop-index l =
    with_all (notes_view l.initial.notes) (each_from (within_service l.fault) 0 (map service_view l.services))
    ≡ with_all (notes_view l.notes) (each_from (within_service l.fault) l.index (map service_view (drop l.index l.services)))
