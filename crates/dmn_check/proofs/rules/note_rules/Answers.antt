use Rattle.dmn_form.specs.FormView.{rule_view}
use Rattle.dmn_check.specs.Rules.{unfit_rule}
use Rattle.dmn_check.specs.NotesView.{notes_view}
use Rattle.dmn_check.proofs.Walking.{turn_through}
use Rattle.dmn_check.proofs.rules.note_rules.Goals as goal

pub loop-index-preserved : goal.loop-index-preserved
loop-index-preserved c =
    turn_through rule_view (unfit_rule c.args.inputs c.args.outputs) c.args.rules.now c.loop-index.index c.index-rules-index.result
    (notes_view c.loop-index.notes) (notes_view c.enter.new.self) (notes_view c.note_rule.new.notes) (notes_view c.leave.new.self) _
    c.loop-index.invariant c.index-rules-index.is c.loop-index-test.true c.in_ok-enter.ensures c.in_ok-note_rule.ensures c.leave.ensures
