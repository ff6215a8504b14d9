-- Internal, cited by no public contract: the tables that the code has.
use Rattle.std.specs.Prelude.{List, map}
use Rattle.desk_checking.specs.Tables.{Placed}
use Rattle.desk_checking.specs.declared.walk.PlacedTable.{PlacedTable}

abbrev pub placed_view : PlacedTable → Placed
placed_view p = record { place = p.place.steps.items; table = p.table.now }

abbrev pub placed_views : List PlacedTable → List Placed
placed_views ps = map placed_view ps
