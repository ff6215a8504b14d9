use Rattle.std.proofs.Common.{map, sym, ap, ◌∙◌}
use Rattle.dmn_form.specs.ModelView.{service_view, model_view}
use Rattle.dmn_names.specs.PlacedModel.{placed_model}
use Rattle.dmn_check.specs.declared.place.Step.TheVariants as step
use Rattle.dmn_check.specs.declared.place.Key.TheVariants as key
use Rattle.dmn_check.specs.Findings.{each_of}
use Rattle.dmn_check.specs.Notes.{empty, into, with_all}
use Rattle.dmn_check.specs.NotesView.{notes_view}
use Rattle.dmn_check.specs.Services.{bad_service, bad_services}
use Rattle.dmn_check.proofs.Walking.{through, along}
use Rattle.dmn_check.proofs.services.told_services.Goals as goal

pub returns : goal.returns
returns c =
    let m = model_view c.args.model.now in
    c.of.ensures (bad_services m)
    (through (step.Key key.Services) (each_of (bad_service m) m.services)
    empty (notes_view c.enter.new.self) (notes_view c.note_services.new.notes) (notes_view c.leave.new.self)
    (c.in_ok-enter.ensures ∙ ap (into (step.Key key.Services)) c.new-notes.ensures)
    (ap (λ n. with_all (notes_view c.enter.new.self) (each_of (bad_service n) m.services)) (sym c.requires.placed)
    ∙ along (λ ss. each_of (bad_service (placed_model c.args.places.now)) (map service_view ss)) c.args.model.now.services.items c.deref.result.now
    (notes_view c.enter.new.self) (notes_view c.note_services.new.notes) c.deref.ensures.value c.in_ok-note_services.ensures)
    c.leave.ensures)
