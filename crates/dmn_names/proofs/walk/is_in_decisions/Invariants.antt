use Rattle.std.proofs.Common.{◌≡◌, map, drop}
use Rattle.std.specs.List.{list_any, flat_map}
use Rattle.dmn_form.specs.ModelView.{decision_view}
use Rattle.dmn_names.specs.Parts.{decision_lists}
use Rattle.dmn_names.proofs.walk.is_in_decisions.Given as goal

abbrev pub invariant-loop-decision : goal.invariant-loop-decision
invariant-loop-decision g l = list_any g.Q.Question.is_so (flat_map decision_lists (map decision_view l.decisions)) ≡ list_any g.Q.Question.is_so (flat_map decision_lists (map decision_view (drop l.decision-index l.decisions)))
