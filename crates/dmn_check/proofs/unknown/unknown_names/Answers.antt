use Rattle.std.proofs.Common.{◌≡◌, map, nat_lt, sym, ap, ◌∙◌}
use Rattle.dmn_form.specs.ModelView.{decision_view, model_view}
use Rattle.dmn_names.specs.PlacedModel.{placed_model}
use Rattle.dmn_check.specs.declared.place.Step.TheVariants as step
use Rattle.dmn_check.specs.declared.place.Key.TheVariants as key
use Rattle.dmn_check.specs.Findings.{each_of}
use Rattle.dmn_check.specs.Notes.{empty, into, with_all}
use Rattle.dmn_check.specs.NotesView.{notes_view}
use Rattle.dmn_check.specs.Told.{Told}
use Rattle.dmn_check.specs.Unknown.{unknown_needs, unknown_names}
use Rattle.dmn_check.proofs.Walking.{through, along}
use Rattle.dmn_check.proofs.UnknownLaws.{unknown_exactly}
use Rattle.dmn_check.proofs.unknown.unknown_names.Goals as goal

pub returns-clause-places : goal.returns-clause-places
returns-clause-places c =
    let m = model_view c.args.model.now in
    let placed : placed_model c.in_ok-places.places ≡ m = c.in_ok-places.ensures in
    c.of.ensures (unknown_names m)
    (through (step.Key key.Decisions) (each_of (unknown_needs m) m.decisions)
    empty (notes_view c.enter.new.self) (notes_view c.note_decisions.new.notes) (notes_view c.leave.new.self)
    (c.in_ok-enter.ensures ∙ ap (into (step.Key key.Decisions)) c.new-notes.ensures)
    (ap (λ n. with_all (notes_view c.enter.new.self) (each_of (unknown_needs n) m.decisions)) (sym placed)
    ∙ along (λ ds. each_of (unknown_needs (placed_model c.in_ok-places.places)) (map decision_view ds)) c.args.model.now.decisions.items c.deref.result.now
    (notes_view c.enter.new.self) (notes_view c.note_decisions.new.notes) c.deref.ensures.value c.in_ok-note_decisions.ensures)
    c.leave.ensures)

pub returns-clause-fault : goal.returns-clause-fault
returns-clause-fault c = ap (λ (t : Told). nat_lt 0 t.count) (returns-clause-places c) ∙ unknown_exactly (model_view c.args.model.now)
