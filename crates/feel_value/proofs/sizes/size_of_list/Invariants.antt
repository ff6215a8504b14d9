use Rattle.std.proofs.Common.{◌≡◌, drop}
use Rattle.feel_value.specs.Datum.{null}
use Rattle.feel_value.specs.Sizes.{size, with_items, IsKept}
use Rattle.feel_value.specs.View.{items_view}
use Rattle.feel_value.proofs.sizes.size_of_list.Given as goal

abbrev pub invariant-loop-value : goal.invariant-loop-value
invariant-loop-value l = record {
  left : with_items (size null) (items_view l.values) ≡ with_items l.size (items_view (drop l.value-index l.values));
  kept : IsKept l.size;
}
