use Rattle.std.proofs.Common.{map, string_bytes, option_map}
use Rattle.dmn_check.specs.declared.place.Step.TheVariants as step
use Rattle.dmn_check.specs.declared.place.Key.TheVariants as key
use Rattle.dmn_check.specs.declared.finding.TextKind.TheVariants.{Literal}
use Rattle.dmn_check.specs.Findings.{behind, each_of}
use Rattle.dmn_check.specs.NotesView.{notes_view}
use Rattle.dmn_check.specs.Unread.{unread, default_texts}
use Rattle.dmn_check.proofs.Walking.{then, along}
use Rattle.dmn_check.proofs.unread.note_column.Goals as goal

pub returns : goal.returns
returns c =
    then (behind (step.Key key.Values) (each_of (unread Literal) (map string_bytes c.args.column.now.values.items))) (default_texts (option_map string_bytes c.args.column.now.fallback))
    (notes_view c.args.notes.now) (notes_view c.note_texts.new.notes) (notes_view c.note_default.new.notes)
    (along (λ xs. behind (step.Key key.Values) (each_of (unread Literal) (map string_bytes xs))) c.args.column.now.values.items c.deref.result.now
    (notes_view c.args.notes.now) (notes_view c.note_texts.new.notes) c.deref.ensures.value c.in_ok-note_texts.ensures)
    c.in_ok-note_default.ensures
