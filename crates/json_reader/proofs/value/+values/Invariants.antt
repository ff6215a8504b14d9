use Rattle.std.proofs.Common.{◌≡◌, ℕ, ◌+◌, ◌*◌, ◌≤◌, length, map}
use Rattle.json.specs.Json.{items, members, parse_map, value}
use Rattle.serde_json.specs.Data.{no_members}
use Rattle.serde_json.specs.Read.{of_items, of_members, converted}
use Rattle.serde_json.specs.View.{view, members_view}
use Rattle.json_reader.proofs.Reading.{before}
use Rattle.json_reader.proofs.value.+values.Given as goal

abbrev pub decreases-value_in : goal.decreases-value_in
decreases-value_in l = 3 * l.depth + 1

abbrev pub decreases-value_from : goal.decreases-value_from
decreases-value_from l = 3 * l.depth

abbrev pub decreases-list_in : goal.decreases-list_in
decreases-list_in l = 3 * l.depth + 2

abbrev pub decreases-object_in : goal.decreases-object_in
decreases-object_in l = 3 * l.depth + 2

abbrev pub invariant-list_in-items : goal.invariant-list_in-items
invariant-list_in-items l =
    (n : ℕ) × (length l.reader ≤ n) × (length l.reader ≤ length l.initial.reader)
    × (converted of_items (items (value l.depth) (length l.initial.reader) l.initial.reader) ≡ parse_map (before (map view l.list.items)) (converted of_items (items (value l.depth) n l.reader)))

abbrev pub decreases-list_in-items : goal.decreases-list_in-items
decreases-list_in-items l = length l.reader

abbrev pub invariant-object_in-members : goal.invariant-object_in-members
invariant-object_in-members l =
    (n : ℕ) × (length l.reader ≤ n) × (length l.reader ≤ length l.initial.reader)
    × (converted (λ ms. of_members ms no_members) (members (value l.depth) (length l.initial.reader) l.initial.reader) ≡ converted (λ ms. of_members ms (members_view l.object.entries)) (members (value l.depth) n l.reader))

abbrev pub decreases-object_in-members : goal.decreases-object_in-members
decreases-object_in-members l = length l.reader
