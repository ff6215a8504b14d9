use Rattle.std.proofs.Common.{map, string_bytes, ◌++◌}
use Rattle.dmn_form.specs.FormView.{column_view, rule_view}
use Rattle.dmn_check.specs.declared.place.Step.TheVariants as step
use Rattle.dmn_check.specs.declared.place.Key.TheVariants as key
use Rattle.dmn_check.specs.declared.finding.TextKind.TheVariants.{Expression}
use Rattle.dmn_check.specs.Findings.{behind, each_of}
use Rattle.dmn_check.specs.NotesView.{notes_view}
use Rattle.dmn_check.specs.Unread.{unread, column_texts, rule_texts}
use Rattle.dmn_check.proofs.Walking.{then, along, through}
use Rattle.dmn_check.proofs.unread.note_table.Goals as goal

pub returns : goal.returns
returns c =
    let t = c.args.table.now in
    let columns = each_of column_texts (map column_view t.outputs.items) in
    let rules = each_of rule_texts (map rule_view t.rules.items) in
    then (behind (step.Key key.Inputs) (each_of (unread Expression) (map string_bytes t.inputs.items)))
    (behind (step.Key key.Outputs) columns ++ behind (step.Key key.Rules) rules)
    (notes_view c.args.notes.now) (notes_view c.note_texts.new.notes) (notes_view c.leave-2.new.self)
    (along (λ xs. behind (step.Key key.Inputs) (each_of (unread Expression) (map string_bytes xs))) t.inputs.items c.deref.result.now
    (notes_view c.args.notes.now) (notes_view c.note_texts.new.notes) c.deref.ensures.value c.in_ok-note_texts.ensures)
    (then (behind (step.Key key.Outputs) columns) (behind (step.Key key.Rules) rules)
    (notes_view c.note_texts.new.notes) (notes_view c.leave.new.self) (notes_view c.leave-2.new.self)
    (through (step.Key key.Outputs) columns (notes_view c.note_texts.new.notes) (notes_view c.enter.new.self) (notes_view c.note_columns.new.notes) (notes_view c.leave.new.self)
    c.in_ok-enter.ensures
    (along (λ xs. each_of column_texts (map column_view xs)) t.outputs.items c.deref-2.result.now
    (notes_view c.enter.new.self) (notes_view c.note_columns.new.notes) c.deref-2.ensures.value c.in_ok-note_columns.ensures)
    c.leave.ensures)
    (through (step.Key key.Rules) rules (notes_view c.leave.new.self) (notes_view c.enter-2.new.self) (notes_view c.note_rules.new.notes) (notes_view c.leave-2.new.self)
    c.in_ok-enter-2.ensures
    (along (λ xs. each_of rule_texts (map rule_view xs)) t.rules.items c.deref-3.result.now
    (notes_view c.enter-2.new.self) (notes_view c.note_rules.new.notes) c.deref-3.ensures.value c.in_ok-note_rules.ensures)
    c.leave-2.ensures))
