use Rattle.std.proofs.Common.{◌≡◌, ◌++◌, drop, map}
use Rattle.dmn_ranges.specs.Columns.{TellsEachPlace}
use Rattle.dmn_ranges.specs.Services.{views}
use Rattle.dmn_ranges.proofs.columns.columns_along.Given as goal

abbrev pub invariant-loop-place : goal.invariant-loop-place
invariant-loop-place l = record {
  told : TellsEachPlace l.items (l.told, views l.known) l.columns.items;
  places : l.order ≡ map (λ c. c.place) l.columns.items ++ drop l.place-index l.order;
}
