use Rattle.std.proofs.Common.{◌≡◌, ◌+◌, ◌*◌, drop}
use Rattle.feel_value.specs.Limits.{depth, items_depth, entries_depth}
use Rattle.feel_value.specs.Comparison.{equal, items_equal, values_equal, has_entry}
use Rattle.feel_value.specs.Logic.{is_yes}
use Rattle.feel_value.specs.Names.{lent, pairs_equal}
use Rattle.feel_value.specs.View.{datum_of, items_view, entries_view}
use Rattle.feel_value.proofs.comparison.+same.Given as goal

-- Each call goes into the first value, or leaves it and calls a function that stands further down here.
abbrev pub decreases-same_contexts : goal.decreases-same_contexts
decreases-same_contexts l = 5 * entries_depth (entries_view l.a.now.items) + 4

abbrev pub decreases-same_by_name : goal.decreases-same_by_name
decreases-same_by_name l = 5 * entries_depth (entries_view l.a.now.items) + 2

abbrev pub decreases-same_entries : goal.decreases-same_entries
decreases-same_entries l = 5 * entries_depth (entries_view l.a.now) + 3

abbrev pub decreases-has_equal : goal.decreases-has_equal
decreases-has_equal l = 5 * depth (datum_of l.value.now) + 2

abbrev pub decreases-has_equal_among : goal.decreases-has_equal_among
decreases-has_equal_among l = 5 * depth (datum_of l.value.now) + 1

abbrev pub decreases-same_pairs : goal.decreases-same_pairs
decreases-same_pairs l = 5 * entries_depth (entries_view (lent l.a.now)) + 1

abbrev pub decreases-same_items : goal.decreases-same_items
decreases-same_items l = 5 * items_depth (items_view l.a.now) + 1

abbrev pub decreases-same_value : goal.decreases-same_value
decreases-same_value l = 5 * depth (datum_of l.a.now)

abbrev pub invariant-same_items-loop-i : goal.invariant-same_items-loop-i
invariant-same_items-loop-i l = items_equal (items_view l.a) (items_view l.b) ≡ items_equal (items_view (drop l.i l.a)) (items_view (drop l.i l.b))

abbrev pub invariant-same_entries-loop-i : goal.invariant-same_entries-loop-i
invariant-same_entries-loop-i l = values_equal (entries_view l.a) (entries_view l.b) ≡ values_equal (entries_view (drop l.i l.a)) (entries_view l.b)

abbrev pub invariant-has_equal_among-loop-key : goal.invariant-has_equal_among-loop-key
invariant-has_equal_among-loop-key l =
    has_entry (λ e. is_yes (equal (datum_of l.value) e)) l.name (entries_view l.entries)
    ≡ has_entry (λ e. is_yes (equal (datum_of l.value) e)) l.name (entries_view (drop l.key-index l.entries))

abbrev pub invariant-same_pairs-loop-i : goal.invariant-same_pairs-loop-i
invariant-same_pairs-loop-i l = pairs_equal (entries_view (lent l.a)) (entries_view (lent l.b)) ≡ pairs_equal (entries_view (lent (drop l.i l.a))) (entries_view (lent (drop l.i l.b)))
