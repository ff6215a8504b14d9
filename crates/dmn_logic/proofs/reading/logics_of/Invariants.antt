use Rattle.std.proofs.Common.{◌≡◌, drop, map}
use Rattle.dmn_form.specs.ModelView.{decision_view}
use Rattle.dmn_logic.specs.LogicView.{logic_view}
use Rattle.dmn_logic.specs.Reading.{decisions_reading}
use Rattle.dmn_logic.proofs.Readings.{read_after}
use Rattle.dmn_logic.proofs.reading.logics_of.Given as goal

abbrev pub invariant-loop-decision : goal.invariant-loop-decision
invariant-loop-decision l = decisions_reading (map decision_view l.decisions) ≡ read_after l.is_refused (map logic_view l.logics.items) (decisions_reading (map decision_view (drop l.decision-index l.decisions)))
