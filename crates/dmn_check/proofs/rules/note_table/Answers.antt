use Rattle.std.proofs.Common.{map, length, string_bytes, ap₂, ◌∙◌, arith}
use Rattle.std.proofs.lemmas.List.{length-map}
use Rattle.dmn_form.specs.FormView.{column_view, rule_view}
use Rattle.dmn_check.specs.declared.place.Step.TheVariants as step
use Rattle.dmn_check.specs.declared.place.Key.TheVariants as key
use Rattle.dmn_check.specs.Findings.{each_of}
use Rattle.dmn_check.specs.Notes.{with_all}
use Rattle.dmn_check.specs.NotesView.{notes_view}
use Rattle.dmn_check.specs.Rules.{unfit_rule}
use Rattle.dmn_check.proofs.Walking.{through, along}
use Rattle.dmn_check.proofs.rules.note_table.Goals as goal

pub returns : goal.returns
returns c =
    let t = c.args.table.now in
    let rules = map rule_view t.rules.items in
    through (step.Key key.Rules) (each_of (unfit_rule (length (map string_bytes t.inputs.items)) (length (map column_view t.outputs.items))) rules)
    (notes_view c.args.notes.now) (notes_view c.enter.new.self) (notes_view c.note_rules.new.notes) (notes_view c.leave.new.self)
    c.in_ok-enter.ensures
    (ap₂ (λ m n. with_all (notes_view c.enter.new.self) (each_of (unfit_rule m n) rules))
    (omega (arith, length-map t.inputs.items string_bytes, c.len.ensures, t.inputs.ok.0)) (omega (arith, length-map t.outputs.items column_view, c.len-2.ensures, t.outputs.ok.0))
    ∙ along (λ rs. each_of (unfit_rule c.len.result c.len-2.result) (map rule_view rs)) t.rules.items c.deref.result.now
    (notes_view c.enter.new.self) (notes_view c.note_rules.new.notes) c.deref.ensures.value c.in_ok-note_rules.ensures)
    c.leave.ensures
