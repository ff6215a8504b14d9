use Rattle.std.proofs.Common.{◌≡◌, ◌++◌}
use Rattle.std.specs.Slice.Iter.{iter_rest}
use Rattle.std.specs.Iterator.Adapters.{zip_first, zip_second}
use Rattle.dmn_table.specs.Listed.{places_among}
use Rattle.dmn_table.proofs.hits.put_places.Given as goal

abbrev pub invariant-loop-listed : goal.invariant-loop-listed
invariant-loop-listed l = places_among l.lists l.values ≡ l.places.items ++ places_among (iter_rest (zip_first l.listed-iterator)) (iter_rest (zip_second l.listed-iterator))
