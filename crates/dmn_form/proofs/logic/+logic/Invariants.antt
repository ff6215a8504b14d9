use Rattle.std.proofs.Common.{◌≡◌, drop}
use Rattle.serde_json.specs.View.{items_view}
use Rattle.dmn_form.specs.Draft.{members_in, entries_in}
use Rattle.dmn_form.specs.LogicView.{members_view, entries_view}
use Rattle.dmn_form.proofs.Readings.{read_after}
use Rattle.dmn_form.proofs.logic.+logic.Given as goal

abbrev pub invariant-members_of-loop-item : goal.invariant-members_of-loop-item
invariant-members_of-loop-item l = members_in (items_view l.item-items) ≡ read_after (members_view l.members) (members_in (items_view (drop l.item-index l.item-items)))

abbrev pub invariant-entries_of-loop-item : goal.invariant-entries_of-loop-item
invariant-entries_of-loop-item l = entries_in (items_view l.item-items) ≡ read_after (entries_view l.entries) (entries_in (items_view (drop l.item-index l.item-items)))
