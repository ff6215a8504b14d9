use Rattle.std.proofs.Common.{ap, ◌∙◌}
use Rattle.dmn_form.specs.ModelView.{model_view}
use Rattle.dmn_check.specs.declared.place.Step.TheVariants as step
use Rattle.dmn_check.specs.declared.place.Key.TheVariants as key
use Rattle.dmn_check.specs.Cycles.{cycle, cycles}
use Rattle.dmn_check.specs.Findings.{each_of}
use Rattle.dmn_check.specs.Notes.{empty, into}
use Rattle.dmn_check.specs.NotesView.{notes_view}
use Rattle.dmn_check.proofs.Walking.{through}
use Rattle.dmn_check.proofs.cycle.told_cycles.Goals as goal

pub returns : goal.returns
returns c =
    let m = model_view c.args.model.now in
    c.of.ensures (cycles m)
    (through (step.Key key.Decisions) (each_of (cycle m) m.decisions)
    empty (notes_view c.enter.new.self) (notes_view c.note_decisions.new.notes) (notes_view c.leave.new.self)
    (c.in_ok-enter.ensures ∙ ap (into (step.Key key.Decisions)) c.new-notes.ensures) c.in_ok-note_decisions.ensures c.leave.ensures)
