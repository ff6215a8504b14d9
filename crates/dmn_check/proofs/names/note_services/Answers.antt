use Rattle.dmn_form.specs.ModelView.{service_view}
use Rattle.dmn_check.specs.NameFaults.{within_service}
use Rattle.dmn_check.specs.NotesView.{notes_view}
use Rattle.dmn_check.proofs.Walking.{turn_through}
use Rattle.dmn_check.proofs.names.note_services.Goals as goal

pub loop-index-preserved : goal.loop-index-preserved
loop-index-preserved c =
    turn_through service_view (within_service c.args.fault) c.args.services.now c.loop-index.index c.index-services-index.result
    (notes_view c.loop-index.notes) (notes_view c.enter.new.self) (notes_view c.note_service.new.notes) (notes_view c.leave.new.self) _
    c.loop-index.invariant c.index-services-index.is c.loop-index-test.true c.in_ok-enter.ensures c.in_ok-note_service.ensures c.leave.ensures
