use Rattle.std.proofs.Common.{map, string_bytes}
use Rattle.dmn_form.specs.LogicView.{logic_view}
use Rattle.dmn_check.specs.declared.place.Step.TheVariants as step
use Rattle.dmn_check.specs.declared.place.Key.TheVariants as key
use Rattle.dmn_check.specs.Findings.{behind}
use Rattle.dmn_check.specs.Look.{logic_findings}
use Rattle.dmn_check.specs.NameFaults.{under, names_look}
use Rattle.dmn_check.specs.NotesView.{notes_view}
use Rattle.dmn_check.proofs.Walking.{then, through, along}
use Rattle.dmn_check.proofs.names.note_decision.Goals as goal

pub returns : goal.returns
returns c =
    let f = c.args.fault in
    let d = c.args.decision.now in
    let within = logic_findings (names_look f) (logic_view d.logic) in
    then (under f key.Needs (map string_bytes d.needs.items)) (behind (step.Key key.Expr) within)
    (notes_view c.args.notes.now) (notes_view c.note_under.new.notes) (notes_view c.leave.new.self)
    (along (λ xs. under f key.Needs (map string_bytes xs)) d.needs.items c.deref.result.now (notes_view c.args.notes.now) (notes_view c.note_under.new.notes)
    c.deref.ensures.value c.in_ok-note_under.ensures)
    (through (step.Key key.Expr) within
    (notes_view c.note_under.new.notes) (notes_view c.enter.new.self) (notes_view c.walk_logic.new.notes) (notes_view c.leave.new.self)
    c.in_ok-enter.ensures c.in_ok-walk_logic.ensures c.leave.ensures)
