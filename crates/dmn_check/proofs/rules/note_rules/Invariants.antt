use Rattle.std.proofs.Common.{◌≡◌, map, drop}
use Rattle.dmn_form.specs.FormView.{rule_view}
use Rattle.dmn_check.specs.Findings.{each_from}
use Rattle.dmn_check.specs.Notes.{with_all}
use Rattle.dmn_check.specs.NotesView.{notes_view}
use Rattle.dmn_check.specs.Rules.{unfit_rule}
use Rattle.dmn_check.proofs.rules.note_rules.Given as goal

abbrev pub invariant-loop-index : goal.invariant-loop-index
invariant-loop-index l =
    with_all (notes_view l.initial.notes) (each_from (unfit_rule l.inputs l.outputs) 0 (map rule_view l.rules))
    ≡ with_all (notes_view l.notes) (each_from (unfit_rule l.inputs l.outputs) l.index (map rule_view (drop l.index l.rules)))
