use Rattle.std.proofs.Common.{◌≡◌, drop, length}
use Rattle.dmn_service.specs.Run.{values_in, given_at}
use Rattle.dmn_service.proofs.service.give.Given as goal

abbrev pub invariant-loop-i : goal.invariant-loop-i
invariant-loop-i l = record {
  given : given_at l.parameters l.values (values_in l.initial.found.items) ≡ given_at (drop l.i l.parameters) (drop l.i l.values) (values_in l.found.items);
  count : length l.found.items ≡ length l.initial.found.items;
}
