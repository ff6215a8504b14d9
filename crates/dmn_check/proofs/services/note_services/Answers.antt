use Rattle.dmn_form.specs.ModelView.{service_view}
use Rattle.dmn_names.specs.PlacedModel.{placed_model}
use Rattle.dmn_check.specs.Services.{bad_service}
use Rattle.dmn_check.specs.NotesView.{notes_view}
use Rattle.dmn_check.proofs.Walking.{turn_through}
use Rattle.dmn_check.proofs.services.note_services.Goals as goal

pub loop-index-preserved : goal.loop-index-preserved
loop-index-preserved c =
    turn_through service_view (bad_service (placed_model c.args.places.now)) c.args.services.now c.loop-index.index c.index-services-index.result
    (notes_view c.loop-index.notes) (notes_view c.enter.new.self) (notes_view c.note_service.new.notes) (notes_view c.leave.new.self) _
    c.loop-index.invariant c.index-services-index.is c.loop-index-test.true c.in_ok-enter.ensures c.in_ok-note_service.ensures c.leave.ensures
