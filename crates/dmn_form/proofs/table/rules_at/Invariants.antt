use Rattle.std.proofs.Common.{◌≡◌, drop}
use Rattle.serde_json.specs.View.{items_view}
use Rattle.dmn_form.specs.Draft.{each_in, rule_of}
use Rattle.dmn_form.specs.FormView.{rules_view}
use Rattle.dmn_form.proofs.Readings.{read_after}
use Rattle.dmn_form.proofs.table.rules_at.Given as goal

abbrev pub invariant-loop-item : goal.invariant-loop-item
invariant-loop-item l = each_in rule_of (items_view l.item-items) ≡ read_after (rules_view l.rules) (each_in rule_of (items_view (drop l.item-index l.item-items)))
