use Rattle.std.proofs.Common.{sym, ap, ◌∙◌}
use Rattle.dmn_form.specs.ModelView.{model_view}
use Rattle.dmn_check.specs.NameFaults.{name_faults, of_heads, of_parts}
use Rattle.dmn_check.specs.Notes.{empty, with_all}
use Rattle.dmn_check.specs.NotesView.{notes_view}
use Rattle.dmn_check.proofs.Walking.{then}
use Rattle.dmn_check.proofs.names.told_names.Goals as goal

pub returns : goal.returns
returns c =
    let f = c.args.fault in
    let m = model_view c.args.model.now in
    c.of.ensures (name_faults f m)
    (then (of_heads f m) (of_parts f m) empty (notes_view c.note_heads.new.notes) (notes_view c.note_parts.new.notes)
    (ap (λ n. with_all n (of_heads f m)) (sym c.new-notes.ensures) ∙ c.in_ok-note_heads.ensures) c.in_ok-note_parts.ensures)
