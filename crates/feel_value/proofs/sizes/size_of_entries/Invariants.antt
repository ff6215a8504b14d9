use Rattle.std.proofs.Common.{◌≡◌, drop}
use Rattle.feel_value.specs.Datum.{null}
use Rattle.feel_value.specs.Sizes.{size, with_entries, IsKept}
use Rattle.feel_value.specs.View.{entries_view}
use Rattle.feel_value.proofs.sizes.size_of_entries.Given as goal

abbrev pub invariant-loop-value : goal.invariant-loop-value
invariant-loop-value l = record {
  left : with_entries (size null) (entries_view l.entries) ≡ with_entries l.size (entries_view (drop l.value-index l.entries));
  kept : IsKept l.size;
}
