use Rattle.dmn_form.specs.FormView.{column_view}
use Rattle.dmn_check.specs.Unread.{column_texts}
use Rattle.dmn_check.specs.NotesView.{notes_view}
use Rattle.dmn_check.proofs.Walking.{turn_through}
use Rattle.dmn_check.proofs.unread.note_columns.Goals as goal

pub loop-index-preserved : goal.loop-index-preserved
loop-index-preserved c =
    turn_through column_view column_texts c.args.columns.now c.loop-index.index c.index-columns-index.result
    (notes_view c.loop-index.notes) (notes_view c.enter.new.self) (notes_view c.note_column.new.notes) (notes_view c.leave.new.self) _
    c.loop-index.invariant c.index-columns-index.is c.loop-index-test.true c.in_ok-enter.ensures c.in_ok-note_column.ensures c.leave.ensures
