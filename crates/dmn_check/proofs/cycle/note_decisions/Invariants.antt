use Rattle.std.proofs.Common.{◌≡◌, map, drop}
use Rattle.dmn_form.specs.ModelView.{decision_view, model_view}
use Rattle.dmn_check.specs.Cycles.{cycle}
use Rattle.dmn_check.specs.Findings.{each_from}
use Rattle.dmn_check.specs.Notes.{with_all}
use Rattle.dmn_check.specs.NotesView.{notes_view}
use Rattle.dmn_check.proofs.cycle.note_decisions.Given as goal

abbrev pub invariant-loop-index : goal.invariant-loop-index
invariant-loop-index l =
    with_all (notes_view l.initial.notes) (each_from (cycle (model_view l.model)) 0 (map decision_view l.model.decisions.items))
    ≡ with_all (notes_view l.notes) (each_from (cycle (model_view l.model)) l.index (map decision_view (drop l.index l.model.decisions.items)))
