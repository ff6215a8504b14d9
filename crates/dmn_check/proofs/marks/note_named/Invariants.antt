use Rattle.std.proofs.Common.{◌≡◌, drop}
use Rattle.dmn_check.specs.declared.place.Step.TheVariants as step
use Rattle.dmn_check.specs.declared.place.Key.TheVariants as key
use Rattle.dmn_check.specs.NameFaults.{mistake_of}
use Rattle.dmn_check.specs.Findings.{behind, here}
use Rattle.dmn_check.specs.Findings.{each_from}
use Rattle.dmn_check.specs.Notes.{with_all}
use Rattle.dmn_check.specs.NotesView.{notes_view}
use Rattle.dmn_check.proofs.marks.note_named.Given as goal

abbrev pub invariant-loop-index : goal.invariant-loop-index
invariant-loop-index l =
    with_all (notes_view l.initial.notes) (each_from (λ b. behind (step.Key key.Name) (here (mistake_of l.fault) b)) 0 l.marks)
    ≡ with_all (notes_view l.notes) (each_from (λ b. behind (step.Key key.Name) (here (mistake_of l.fault) b)) l.index (drop l.index l.marks))
