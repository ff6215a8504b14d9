use Rattle.std.proofs.Common.{map, string_bytes}
use Rattle.dmn_names.specs.PlacedModel.{placed_model}
use Rattle.dmn_check.specs.declared.place.Step.TheVariants as step
use Rattle.dmn_check.specs.declared.place.Key.TheVariants as key
use Rattle.dmn_check.specs.Findings.{each_of}
use Rattle.dmn_check.specs.Unknown.{unknown_name}
use Rattle.dmn_check.specs.NotesView.{notes_view}
use Rattle.dmn_check.proofs.Walking.{through, along}
use Rattle.dmn_check.proofs.unknown.note_needs.Goals as goal

pub returns : goal.returns
returns c =
    let f = unknown_name (placed_model c.args.places.now) in
    let d = c.args.decision.now in
    through (step.Key key.Needs) (each_of f (map string_bytes d.needs.items))
    (notes_view c.args.notes.now) (notes_view c.enter.new.self) (notes_view c.note_names.new.notes) (notes_view c.leave.new.self)
    c.in_ok-enter.ensures
    (along (λ xs. each_of f (map string_bytes xs)) d.needs.items c.deref.result.now
    (notes_view c.enter.new.self) (notes_view c.note_names.new.notes) c.deref.ensures.value c.in_ok-note_names.ensures)
    c.leave.ensures
