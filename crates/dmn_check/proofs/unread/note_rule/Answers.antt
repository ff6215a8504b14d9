use Rattle.std.proofs.Common.{map, string_bytes}
use Rattle.dmn_check.specs.declared.place.Step.TheVariants as step
use Rattle.dmn_check.specs.declared.place.Key.TheVariants as key
use Rattle.dmn_check.specs.declared.finding.TextKind.TheVariants.{Expression, UnaryTests}
use Rattle.dmn_check.specs.Findings.{behind, each_of}
use Rattle.dmn_check.specs.NotesView.{notes_view}
use Rattle.dmn_check.specs.Unread.{unread}
use Rattle.dmn_check.proofs.Walking.{then, along}
use Rattle.dmn_check.proofs.unread.note_rule.Goals as goal

pub returns : goal.returns
returns c =
    then (behind (step.Key key.When) (each_of (unread UnaryTests) (map string_bytes c.args.rule.now.tests.items)))
    (behind (step.Key key.Then) (each_of (unread Expression) (map string_bytes c.args.rule.now.gives.items)))
    (notes_view c.args.notes.now) (notes_view c.note_texts.new.notes) (notes_view c.note_texts-2.new.notes)
    (along (λ xs. behind (step.Key key.When) (each_of (unread UnaryTests) (map string_bytes xs))) c.args.rule.now.tests.items c.deref.result.now
    (notes_view c.args.notes.now) (notes_view c.note_texts.new.notes) c.deref.ensures.value c.in_ok-note_texts.ensures)
    (along (λ xs. behind (step.Key key.Then) (each_of (unread Expression) (map string_bytes xs))) c.args.rule.now.gives.items c.deref-2.result.now
    (notes_view c.note_texts.new.notes) (notes_view c.note_texts-2.new.notes) c.deref-2.ensures.value c.in_ok-note_texts-2.ensures)
