use Rattle.std.proofs.Common.{map}
use Rattle.dmn_form.specs.ModelView.{decision_view, service_view}
use Rattle.dmn_check.specs.declared.place.Step.TheVariants as step
use Rattle.dmn_check.specs.declared.place.Key.TheVariants as key
use Rattle.dmn_check.specs.Findings.{behind, each_of}
use Rattle.dmn_check.specs.NameFaults.{within_decision, within_service}
use Rattle.dmn_check.specs.NotesView.{notes_view}
use Rattle.dmn_check.proofs.Walking.{then, through, along}
use Rattle.dmn_check.proofs.names.note_parts.Goals as goal

pub returns : goal.returns
returns c =
    let f = c.args.fault in
    let m = c.args.model.now in
    let decisions = each_of (within_decision f) (map decision_view m.decisions.items) in
    let services = each_of (within_service f) (map service_view m.services.items) in
    then (behind (step.Key key.Decisions) decisions) (behind (step.Key key.Services) services)
    (notes_view c.args.notes.now) (notes_view c.leave.new.self) (notes_view c.leave-2.new.self)
    (through (step.Key key.Decisions) decisions
    (notes_view c.args.notes.now) (notes_view c.enter.new.self) (notes_view c.note_decisions.new.notes) (notes_view c.leave.new.self)
    c.in_ok-enter.ensures
    (along (λ xs. each_of (within_decision f) (map decision_view xs)) m.decisions.items c.deref.result.now
    (notes_view c.enter.new.self) (notes_view c.note_decisions.new.notes) c.deref.ensures.value c.in_ok-note_decisions.ensures)
    c.leave.ensures)
    (through (step.Key key.Services) services
    (notes_view c.leave.new.self) (notes_view c.enter-2.new.self) (notes_view c.note_services.new.notes) (notes_view c.leave-2.new.self)
    c.in_ok-enter-2.ensures
    (along (λ xs. each_of (within_service f) (map service_view xs)) m.services.items c.deref-2.result.now
    (notes_view c.enter-2.new.self) (notes_view c.note_services.new.notes) c.deref-2.ensures.value c.in_ok-note_services.ensures)
    c.leave-2.ensures)
