use Rattle.dmn_form.specs.ModelView.{decision_view}
use Rattle.dmn_names.specs.PlacedModel.{placed_model}
use Rattle.dmn_check.specs.Unknown.{unknown_needs}
use Rattle.dmn_check.specs.NotesView.{notes_view}
use Rattle.dmn_check.proofs.Walking.{turn_through}
use Rattle.dmn_check.proofs.unknown.note_decisions.Goals as goal

pub loop-index-preserved : goal.loop-index-preserved
loop-index-preserved c =
    turn_through decision_view (unknown_needs (placed_model c.args.places.now)) c.args.decisions.now c.loop-index.index c.index-decisions-index.result
    (notes_view c.loop-index.notes) (notes_view c.enter.new.self) (notes_view c.note_needs.new.notes) (notes_view c.leave.new.self) _
    c.loop-index.invariant c.index-decisions-index.is c.loop-index-test.true c.in_ok-enter.ensures c.in_ok-note_needs.ensures c.leave.ensures
