use Rattle.std.proofs.Common.{◌≡◌, map, length, string_bytes, sym, ap, ap₂, ◌∙◌, arith}
use Rattle.std.proofs.lemmas.List.{length-map}
use Rattle.dmn_form.specs.ModelView.{model_view}
use Rattle.dmn_form.specs.declared.written.WrittenService.{WrittenService}
use Rattle.dmn_names.specs.Parts.{value_names, service_names, decision_names}
use Rattle.dmn_names.proofs.Walks.{service_names_view}
use Rattle.dmn_check.specs.declared.place.Step.TheVariants as step
use Rattle.dmn_check.specs.declared.place.Key.TheVariants as key
use Rattle.dmn_check.specs.Findings.{behind}
use Rattle.dmn_check.specs.NameFaults.{marks, in_named, of_values}
use Rattle.dmn_check.specs.Notes.{with_all}
use Rattle.dmn_check.specs.NotesView.{notes_view}
use Rattle.dmn_check.proofs.Marking.{enough_marks}
use Rattle.dmn_check.proofs.Walking.{then, through, alike}
use Rattle.dmn_check.proofs.names.note_heads.Goals as goal

pub note_values-requires : goal.note_values-requires
note_values-requires c =
    let f = c.args.fault in
    let m = model_view c.args.model.now in
    let all : marks f (value_names m) ≡ c.deref-2.result.now =
    sym (c.deref-2.ensures.value ∙ c.in_ok-marks.ensures ∙ ap (λ ns. marks f (map (λ n. n.now) ns)) c.deref.ensures.value ∙ ap (marks f) c.in_ok-names.ensures)
    in
    omega (arith, length-map c.args.model.now.inputs.items string_bytes, c.len.ensures, c.args.model.now.inputs.ok.0, ap length all, enough_marks f m.inputs (decision_names m))

pub returns : goal.returns
returns c =
    let f = c.args.fault in
    let m = model_view c.args.model.now in
    let all : marks f (value_names m) ≡ c.deref-2.result.now =
    sym (c.deref-2.ensures.value ∙ c.in_ok-marks.ensures ∙ ap (λ ns. marks f (map (λ n. n.now) ns)) c.deref.ensures.value ∙ ap (marks f) c.in_ok-names.ensures)
    in
    let services = in_named f (marks f (service_names m)) in
    then (of_values f (length m.inputs) (marks f (value_names m))) (behind (step.Key key.Services) services)
    (notes_view c.args.notes.now) (notes_view c.note_values.new.notes) (notes_view c.leave.new.self)
    (ap₂ (λ n bs. with_all (notes_view c.args.notes.now) (of_values f n bs)) (omega (arith, length-map c.args.model.now.inputs.items string_bytes, c.len.ensures, c.args.model.now.inputs.ok.0)) all ∙ c.in_ok-note_values.ensures)
    (through (step.Key key.Services) services
    (notes_view c.note_values.new.notes) (notes_view c.enter.new.self) (notes_view c.note_objects.new.notes) (notes_view c.leave.new.self)
    c.in_ok-enter.ensures
    (alike (λ ns. in_named f (marks f ns)) (service_names m) (map (λ (s : WrittenService). string_bytes s.name) c.deref-3.result.now)
    (notes_view c.enter.new.self) (notes_view c.note_objects.new.notes)
    (service_names_view c.args.model.now.services.items ∙ ap (map (λ (s : WrittenService). string_bytes s.name)) (sym c.deref-3.ensures.value))
    c.in_ok-note_objects.ensures)
    c.leave.ensures)
