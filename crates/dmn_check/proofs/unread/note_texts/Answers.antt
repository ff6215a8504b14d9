use Rattle.std.proofs.Common.{map, string_bytes}
use Rattle.dmn_check.specs.declared.place.Step.TheVariants as step
use Rattle.dmn_check.specs.Findings.{each_of}
use Rattle.dmn_check.specs.NotesView.{notes_view}
use Rattle.dmn_check.specs.Unread.{unread}
use Rattle.dmn_check.proofs.Walking.{through}
use Rattle.dmn_check.proofs.unread.note_texts.Goals as goal

pub returns : goal.returns
returns c =
    through (step.Key c.args.key) (each_of (unread c.args.kind) (map string_bytes c.args.texts.now))
    (notes_view c.args.notes.now) (notes_view c.enter.new.self) (notes_view c.note_each_text.new.notes) (notes_view c.leave.new.self)
    c.in_ok-enter.ensures c.in_ok-note_each_text.ensures c.leave.ensures
