use Rattle.std.proofs.Common.{◌≡◌, true, drop, length}
use Rattle.dmn_service.specs.Run.{values_in, filled_by, AreKnown}
use Rattle.dmn_service.proofs.service.fill_in_order.Given as goal

abbrev pub invariant-loop-place : goal.invariant-loop-place
invariant-loop-place l = record {
  filled : filled_by l.items l.order (values_in l.initial.found.items) ≡ filled_by l.items (drop l.place-index l.order) (values_in l.found.items);
  count : length l.found.items ≡ length l.items;
  known : l.all ≡ true → AreKnown l.items (values_in l.found.items) (drop l.place-index l.order);
}
