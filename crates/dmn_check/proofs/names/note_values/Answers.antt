use Rattle.std.proofs.Common.{take, drop, sym}
use Rattle.dmn_check.specs.declared.place.Step.TheVariants as step
use Rattle.dmn_check.specs.declared.place.Key.TheVariants as key
use Rattle.dmn_check.specs.Findings.{behind}
use Rattle.dmn_check.specs.NameFaults.{in_texts, in_named}
use Rattle.dmn_check.specs.NotesView.{notes_view}
use Rattle.dmn_check.proofs.Walking.{then, through, alike}
use Rattle.dmn_check.proofs.names.note_values.Goals as goal

pub returns : goal.returns
returns c =
    let f = c.args.fault in
    let inputs = take c.args.inputs c.args.marks.now in
    let decisions = drop c.args.inputs c.args.marks.now in
    then (behind (step.Key key.Inputs) (in_texts f inputs)) (behind (step.Key key.Decisions) (in_named f decisions))
    (notes_view c.args.notes.now) (notes_view c.leave.new.self) (notes_view c.leave-2.new.self)
    (through (step.Key key.Inputs) (in_texts f inputs)
    (notes_view c.args.notes.now) (notes_view c.enter.new.self) (notes_view c.note_texts.new.notes) (notes_view c.leave.new.self)
    c.in_ok-enter.ensures
    (alike (in_texts f) inputs c.split_at.result.0.now (notes_view c.enter.new.self) (notes_view c.note_texts.new.notes) (sym c.split_at.ensures.front) c.in_ok-note_texts.ensures)
    c.leave.ensures)
    (through (step.Key key.Decisions) (in_named f decisions)
    (notes_view c.leave.new.self) (notes_view c.enter-2.new.self) (notes_view c.note_named.new.notes) (notes_view c.leave-2.new.self)
    c.in_ok-enter-2.ensures
    (alike (in_named f) decisions c.split_at.result.1.now (notes_view c.enter-2.new.self) (notes_view c.note_named.new.notes) (sym c.split_at.ensures.back) c.in_ok-note_named.ensures)
    c.leave-2.ensures)
