use Rattle.dmn_form.specs.ModelView.{decision_view}
use Rattle.dmn_check.specs.Look.{decision_findings}
use Rattle.dmn_check.specs.NotesView.{notes_view}
use Rattle.dmn_check.proofs.Walking.{turn_through}
use Rattle.dmn_check.proofs.walk.walk_each_decision.Goals as goal

pub loop-index-preserved : goal.loop-index-preserved
loop-index-preserved g c =
    turn_through decision_view (decision_findings (g.L.Look.look c.args.look.now)) c.args.decisions.now c.loop-index.index c.index-decisions-index.result
    (notes_view c.loop-index.notes) (notes_view c.enter.new.self) (notes_view c.walk_decision.new.notes) (notes_view c.leave.new.self) _
    c.loop-index.invariant c.index-decisions-index.is c.loop-index-test.true c.in_ok-enter.ensures c.in_ok-walk_decision.ensures c.leave.ensures
