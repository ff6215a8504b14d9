use Rattle.std.proofs.Common.{◌≡◌, ◌+◌, ◌*◌, drop}
use Rattle.feel_value.specs.Limits.{depth, items_depth, entries_depth}
use Rattle.feel_value.specs.View.{datum_of, items_view, entries_view}
use Rattle.dmn_plan.specs.Identical.{are_same_items, are_same_entries}
use Rattle.dmn_plan.proofs.same.+same.Given as goal

-- Each call goes into the first value, or leaves it for its parts.
abbrev pub decreases-same_value : goal.decreases-same_value
decreases-same_value l = 2 * depth (datum_of l.a.now)

abbrev pub decreases-same_items : goal.decreases-same_items
decreases-same_items l = 2 * items_depth (items_view l.a.now) + 1

abbrev pub decreases-same_entries : goal.decreases-same_entries
decreases-same_entries l = 2 * entries_depth (entries_view l.a.now) + 1

abbrev pub invariant-same_items-loop-i : goal.invariant-same_items-loop-i
invariant-same_items-loop-i l = are_same_items (items_view l.a) (items_view l.b) ≡ are_same_items (items_view (drop l.i l.a)) (items_view (drop l.i l.b))

abbrev pub invariant-same_entries-loop-i : goal.invariant-same_entries-loop-i
invariant-same_entries-loop-i l = are_same_entries (entries_view l.a) (entries_view l.b) ≡ are_same_entries (entries_view (drop l.i l.a)) (entries_view (drop l.i l.b))
