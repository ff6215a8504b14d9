use Rattle.std.proofs.Common.{◌≡◌, map, drop}
use Rattle.dmn_form.specs.ModelView.{decision_view}
use Rattle.dmn_names.specs.PlacedModel.{placed_model}
use Rattle.dmn_check.specs.Unknown.{unknown_needs}
use Rattle.dmn_check.specs.Findings.{each_from}
use Rattle.dmn_check.specs.Notes.{with_all}
use Rattle.dmn_check.specs.NotesView.{notes_view}
use Rattle.dmn_check.proofs.unknown.note_decisions.Given as goal

abbrev pub invariant-loop-index : goal.invariant-loop-index
invariant-loop-index l =
    with_all (notes_view l.initial.notes) (each_from (unknown_needs (placed_model l.places)) 0 (map decision_view l.decisions))
    ≡ with_all (notes_view l.notes) (each_from (unknown_needs (placed_model l.places)) l.index (map decision_view (drop l.index l.decisions)))
