use Rattle.std.proofs.Common.{◌≡◌, map, drop}
use Rattle.dmn_form.specs.ModelView.{decision_view}
use Rattle.dmn_check.specs.Look.{decision_findings}
use Rattle.dmn_check.specs.Findings.{each_from}
use Rattle.dmn_check.specs.Notes.{with_all}
use Rattle.dmn_check.specs.NotesView.{notes_view}
use Rattle.dmn_check.proofs.walk.walk_each_decision.Given as goal

abbrev pub invariant-loop-index : goal.invariant-loop-index
invariant-loop-index g l =
    with_all (notes_view l.initial.notes) (each_from (decision_findings (g.L.Look.look l.look)) 0 (map decision_view l.decisions))
    ≡ with_all (notes_view l.notes) (each_from (decision_findings (g.L.Look.look l.look)) l.index (map decision_view (drop l.index l.decisions)))
