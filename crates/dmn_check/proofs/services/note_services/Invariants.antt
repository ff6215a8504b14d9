use Rattle.std.proofs.Common.{◌≡◌, map, drop}
use Rattle.dmn_form.specs.ModelView.{service_view}
use Rattle.dmn_names.specs.PlacedModel.{placed_model}
use Rattle.dmn_check.specs.Services.{bad_service}
use Rattle.dmn_check.specs.Findings.{each_from}
use Rattle.dmn_check.specs.Notes.{with_all}
use Rattle.dmn_check.specs.NotesView.{notes_view}
use Rattle.dmn_check.proofs.services.note_services.Given as goal

abbrev pub invariant-loop-index : goal.invariant-loop-index
invariant-loop-index l =
    with_all (notes_view l.initial.notes) (each_from (bad_service (placed_model l.places)) 0 (map service_view l.services))
    ≡ with_all (notes_view l.notes) (each_from (bad_service (placed_model l.places)) l.index (map service_view (drop l.index l.services)))
