use Rattle.std.proofs.Common.{◌≡◌, ◌+◌, ◌*◌, drop}
use Rattle.serde_json.specs.Data.{array, object}
use Rattle.serde_json.specs.Written.{compact_text, items_text, members_text}
use Rattle.feel_value.specs.Json.{json_items}
use Rattle.feel_value.specs.Limits.{depth, items_depth, entries_depth}
use Rattle.feel_value.specs.Names.{lent}
use Rattle.feel_value.specs.View.{datum_of, items_view, entries_view}
use Rattle.json_writer.specs.Bounded.{longer}
use Rattle.json_writer.specs.InOrder.{as_they_stand}
use Rattle.json_writer.proofs.parts.+parts.Given as goal

abbrev pub decreases-add_part : goal.decreases-add_part
decreases-add_part l = 3 * depth (datum_of l.value.now)

abbrev pub decreases-add_items : goal.decreases-add_items
decreases-add_items l = 3 * items_depth (items_view l.items.now) + 1

abbrev pub decreases-add_entries : goal.decreases-add_entries
decreases-add_entries l = 3 * entries_depth (entries_view l.entries.now) + 2

abbrev pub decreases-add_members : goal.decreases-add_members
decreases-add_members l = 3 * entries_depth (entries_view (lent l.members.now)) + 1

abbrev pub invariant-add_items-loop-item : goal.invariant-add_items-loop-item
invariant-add_items-loop-item l =
    longer l.text (items_text l.later (json_items (items_view (drop l.item-index l.items)))) ≡ longer l.fn.text (compact_text (array (json_items (items_view l.items))))

abbrev pub invariant-add_members-loop-name : goal.invariant-add_members-loop-name
invariant-add_members-loop-name l =
    longer l.text (members_text l.later (as_they_stand (entries_view (lent (drop l.name-index l.members))))) ≡ longer l.fn.text (compact_text (object (as_they_stand (entries_view (lent l.members)))))
