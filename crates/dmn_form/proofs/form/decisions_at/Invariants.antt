use Rattle.std.proofs.Common.{◌≡◌, drop}
use Rattle.serde_json.specs.View.{items_view}
use Rattle.dmn_form.specs.Draft.{each_in, decision_of}
use Rattle.dmn_form.specs.ModelView.{decisions_view}
use Rattle.dmn_form.proofs.Readings.{read_after}
use Rattle.dmn_form.proofs.form.decisions_at.Given as goal

abbrev pub invariant-loop-item : goal.invariant-loop-item
invariant-loop-item l = each_in decision_of (items_view l.item-items) ≡ read_after (decisions_view l.decisions) (each_in decision_of (items_view (drop l.item-index l.item-items)))
