use Rattle.dmn_form.specs.LogicView.{logic_view}
use Rattle.dmn_check.specs.declared.place.Step.TheVariants as step
use Rattle.dmn_check.specs.declared.place.Key.TheVariants as key
use Rattle.dmn_check.specs.Look.{logic_findings}
use Rattle.dmn_check.specs.NotesView.{notes_view}
use Rattle.dmn_check.proofs.Walking.{through}
use Rattle.dmn_check.proofs.walk.walk_decision.Goals as goal

pub returns : goal.returns
returns g c =
    through (step.Key key.Expr) (logic_findings (g.L.Look.look c.args.look.now) (logic_view c.args.decision.now.logic))
    (notes_view c.args.notes.now) (notes_view c.enter.new.self) (notes_view c.walk_logic.new.notes) (notes_view c.leave.new.self)
    c.in_ok-enter.ensures c.in_ok-walk_logic.ensures c.leave.ensures
