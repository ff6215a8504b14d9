-- Cells that are joined.
use Rattle.std.proofs.Common.{List}
use Rattle.std.specs.List.{All}
use Rattle.dmn_analysis.specs.Joining.{AreCovered}
use Rattle.dmn_analysis.specs.declared.gaps.Bare.{Bare}
use Rattle.dmn_analysis.proofs.Places.{All-from_places, map_at}

-- cells are within themselves
pub own : (all : List Bare) → All (λ (b : Bare). AreCovered b.cells.items all) all
own all = All-from_places (λ (b : Bare). AreCovered b.cells.items all) all (λ k b there words values inside. record {
  place = k;
  cells = b.cells.items;
  there = map_at (λ (b : Bare). b.cells.items) all k b there;
  inside = inside;
})
