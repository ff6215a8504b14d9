use Rattle.std.proofs.Common.{◌≡◌, ◌++◌}
use Rattle.std.specs.Slice.Iter.{iter_rest}
use Rattle.std.specs.Iterator.Adapters.{zip_first, zip_second}
use Rattle.dmn_table.specs.Priority.{listed_places}
use Rattle.dmn_table.proofs.listed.listed_places.Given as goal

abbrev pub invariant-loop-listed : goal.invariant-loop-listed
invariant-loop-listed l = listed_places l.lists l.values ≡ l.places.items ++ listed_places (iter_rest (zip_first l.listed-iterator)) (iter_rest (zip_second l.listed-iterator))
