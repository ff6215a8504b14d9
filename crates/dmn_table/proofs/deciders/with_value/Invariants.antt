use Rattle.std.proofs.Common.{◌≡◌, ◌++◌, map}
use Rattle.std.specs.Iterator.Adapters.{zip_first, zip_second}
use Rattle.std.specs.Ordering.{int_eq}
use Rattle.std.specs.Slice.Iter.{iter_rest}
use Rattle.dmn_table.specs.Hits.{kept}
use Rattle.dmn_table.proofs.deciders.with_value.Given as goal

abbrev pub invariant-loop-number : goal.invariant-loop-number
invariant-loop-number l = kept l.numbers (map (int_eq l.value) l.values) ≡ l.found.items ++ kept (iter_rest (zip_first l.number-iterator)) (map (int_eq l.value) (iter_rest (zip_second l.number-iterator)))
