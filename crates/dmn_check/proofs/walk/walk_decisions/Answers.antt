use Rattle.std.proofs.Common.{map}
use Rattle.dmn_form.specs.ModelView.{decision_view}
use Rattle.dmn_check.specs.declared.place.Step.TheVariants as step
use Rattle.dmn_check.specs.declared.place.Key.TheVariants as key
use Rattle.dmn_check.specs.Findings.{each_of}
use Rattle.dmn_check.specs.Look.{decision_findings}
use Rattle.dmn_check.specs.NotesView.{notes_view}
use Rattle.dmn_check.proofs.Walking.{through}
use Rattle.dmn_check.proofs.walk.walk_decisions.Goals as goal

pub returns : goal.returns
returns g c =
    through (step.Key key.Decisions) (each_of (decision_findings (g.L.Look.look c.args.look.now)) (map decision_view c.args.decisions.now))
    (notes_view c.args.notes.now) (notes_view c.enter.new.self) (notes_view c.walk_each_decision.new.notes) (notes_view c.leave.new.self)
    c.in_ok-enter.ensures c.in_ok-walk_each_decision.ensures c.leave.ensures
