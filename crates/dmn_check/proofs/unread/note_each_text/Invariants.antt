use Rattle.std.proofs.Common.{◌≡◌, map, drop, string_bytes}
use Rattle.dmn_check.specs.Unread.{unread}
use Rattle.dmn_check.specs.Findings.{each_from}
use Rattle.dmn_check.specs.Notes.{with_all}
use Rattle.dmn_check.specs.NotesView.{notes_view}
use Rattle.dmn_check.proofs.unread.note_each_text.Given as goal

abbrev pub invariant-loop-index : goal.invariant-loop-index
invariant-loop-index l =
    with_all (notes_view l.initial.notes) (each_from (unread l.kind) 0 (map string_bytes l.texts))
    ≡ with_all (notes_view l.notes) (each_from (unread l.kind) l.index (map string_bytes (drop l.index l.texts)))
