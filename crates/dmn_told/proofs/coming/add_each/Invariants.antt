use Rattle.std.proofs.Common.{◌≡◌, ◌<◌, length}
use Rattle.std.specs.List.{All}
use Rattle.dmn_told.proofs.Comings.{AddsRest}
use Rattle.dmn_told.proofs.coming.add_each.Given as goal

abbrev pub invariant-loop-one : goal.invariant-loop-one
invariant-loop-one l = record {
  adds : AddsRest l.fn.columns.items l.initial.told.items l.one-iterator.rest.items l.told.items;
  count : length l.told.items ≡ length l.initial.told.items;
  inside : All (λ c. c.place < length l.initial.told.items) l.one-iterator.rest.items;
}
