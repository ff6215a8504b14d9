use Rattle.std.proofs.Common.{◌≡◌, map, drop}
use Rattle.dmn_form.specs.FormView.{column_view}
use Rattle.dmn_check.specs.Unread.{column_texts}
use Rattle.dmn_check.specs.Findings.{each_from}
use Rattle.dmn_check.specs.Notes.{with_all}
use Rattle.dmn_check.specs.NotesView.{notes_view}
use Rattle.dmn_check.proofs.unread.note_columns.Given as goal

abbrev pub invariant-loop-index : goal.invariant-loop-index
invariant-loop-index l =
    with_all (notes_view l.initial.notes) (each_from column_texts 0 (map column_view l.columns))
    ≡ with_all (notes_view l.notes) (each_from column_texts l.index (map column_view (drop l.index l.columns)))
