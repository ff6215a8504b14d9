use Rattle.std.proofs.Common.{map, string_bytes, sym, ap, ◌∙◌}
use Rattle.dmn_form.specs.FormView.{column_view, table_view}
use Rattle.dmn_form.specs.declared.written.WrittenColumn.{WrittenColumn}
use Rattle.dmn_names.specs.Parts.{output_names}
use Rattle.dmn_names.proofs.Walks.{map_twice}
use Rattle.dmn_check.specs.declared.place.Step.TheVariants as step
use Rattle.dmn_check.specs.declared.place.Key.TheVariants as key
use Rattle.dmn_check.specs.NameFaults.{marks, in_named}
use Rattle.dmn_check.specs.NotesView.{notes_view}
use Rattle.dmn_check.proofs.Walking.{through, alike}
use Rattle.dmn_check.proofs.names.note_outputs.Goals as goal

pub returns : goal.returns
returns c =
    let f = c.args.fault in
    let t = c.args.table.now in
    through (step.Key key.Outputs) (in_named f (marks f (output_names (table_view t))))
    (notes_view c.args.notes.now) (notes_view c.enter.new.self) (notes_view c.note_objects.new.notes) (notes_view c.leave.new.self)
    c.in_ok-enter.ensures
    (alike (λ ns. in_named f (marks f ns)) (output_names (table_view t)) (map (λ (o : WrittenColumn). string_bytes o.name) c.deref.result.now)
    (notes_view c.enter.new.self) (notes_view c.note_objects.new.notes)
    (map_twice (λ o. o.name) column_view t.outputs.items ∙ ap (map (λ (o : WrittenColumn). string_bytes o.name)) (sym c.deref.ensures.value))
    c.in_ok-note_objects.ensures)
    c.leave.ensures
