use Rattle.std.proofs.Common.{map, string_bytes, sym, ◌∙◌}
use Rattle.dmn_check.specs.declared.place.Step.TheVariants as step
use Rattle.dmn_check.specs.NameFaults.{marks, in_texts}
use Rattle.dmn_check.specs.NotesView.{notes_view}
use Rattle.dmn_check.proofs.Walking.{through, alike}
use Rattle.dmn_check.proofs.names.note_under.Goals as goal

pub returns : goal.returns
returns c =
    let f = c.args.fault in
    let all = marks f (map string_bytes c.args.texts.now) in
    through (step.Key c.args.key) (in_texts f all)
    (notes_view c.args.notes.now) (notes_view c.enter.new.self) (notes_view c.note_texts.new.notes) (notes_view c.leave.new.self)
    c.in_ok-enter.ensures
    (alike (in_texts f) all c.deref.result.now (notes_view c.enter.new.self) (notes_view c.note_texts.new.notes)
    (sym (c.deref.ensures.value ∙ c.in_ok-marks.ensures)) c.in_ok-note_texts.ensures)
    c.leave.ensures
