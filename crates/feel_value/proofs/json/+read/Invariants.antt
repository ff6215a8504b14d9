use Rattle.std.proofs.Common.{◌≡◌, drop, option_map}
use Rattle.serde_json.specs.View.{items_view, members_view}
use Rattle.feel_value.specs.Datum.{null}
use Rattle.feel_value.specs.Sizes.{size, with_items, with_entries}
use Rattle.feel_value.specs.View.{items_view as values_view, entries_view}
use Rattle.feel_value.specs.Json.{items_of_json, entries_of_json}
use Rattle.feel_value.specs.JsonKeys.{items_rise, members_rise}
use Rattle.feel_value.proofs.FromJson.{items_after, entries_after}
use Rattle.feel_value.proofs.json.+read.Given as goal

abbrev pub invariant-read_items-loop-item : goal.invariant-read_items-loop-item
invariant-read_items-loop-item l = record {
  read : items_of_json (items_view l.items) ≡ option_map (items_after l.values.items) (items_of_json (items_view (drop l.item-index l.items)));
  size : l.size ≡ with_items (size null) (values_view l.values.items);
  rising : items_rise (items_view l.items) ≡ items_rise (items_view (drop l.item-index l.items));
}

abbrev pub invariant-read_members-loop-key : goal.invariant-read_members-loop-key
invariant-read_members-loop-key l = record {
  read : entries_of_json (members_view l.members.entries) ≡ option_map (entries_after l.entries.items) (entries_of_json (members_view l.key-iterator));
  size : l.size ≡ with_entries (size null) (entries_view l.entries.items);
  rising : members_rise (members_view l.members.entries) ≡ members_rise (members_view l.key-iterator);
}
