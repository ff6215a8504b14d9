use Rattle.std.proofs.Common.{◌≡◌, ◌++◌, drop, map}
use Rattle.serde_json.specs.Data.{array}
use Rattle.serde_json.specs.Written.{compact_text, items_text}
use Rattle.dmn_form.specs.ModelView.{decision_view}
use Rattle.desk_checking.specs.Told.{decisions_told}
use Rattle.desk_checking.proofs.model_line.add_decisions.Given as goal

abbrev pub invariant-loop-decision : goal.invariant-loop-decision
invariant-loop-decision l =
    l.text.items ++ items_text l.later (decisions_told (map decision_view (drop l.decision-index l.decisions)))
    ≡ l.fn.text.items ++ compact_text (array (decisions_told (map decision_view l.decisions)))
