use Rattle.std.proofs.Common.{◌<◌, length, arith}
use Rattle.dmn_form.specs.ModelView.{decision_view, model_view}
use Rattle.dmn_check.specs.Cycles.{cycle}
use Rattle.dmn_check.specs.NotesView.{notes_view}
use Rattle.dmn_check.proofs.Walking.{turn_at}
use Rattle.dmn_check.proofs.cycle.note_decisions.Goals as goal

pub loop-index-preserved : goal.loop-index-preserved
loop-index-preserved c =
    let more : c.loop-index.index < length c.args.model.now.decisions.items = omega (arith, c.loop-index-test.true, c.len-index-end.ensures, c.args.model.now.decisions.ok.0) in
    turn_at decision_view (cycle (model_view c.args.model.now)) c.args.model.now.decisions.items c.loop-index.index
    (notes_view c.loop-index.notes) (notes_view c.enter.new.self) (notes_view c.note_decision.new.notes) (notes_view c.leave.new.self) _
    c.loop-index.invariant more c.in_ok-enter.ensures c.in_ok-note_decision.ensures c.leave.ensures
