use Rattle.std.proofs.Common.{◌≡◌, drop, length}
use Rattle.dmn_ranges.specs.Services.{given_told}
use Rattle.dmn_ranges.proofs.service.give.Given as goal

abbrev pub invariant-loop-i : goal.invariant-loop-i
invariant-loop-i l = record {
  given : given_told l.domains 0 l.parameters l.initial.told.items ≡ given_told l.domains l.i (drop l.i l.parameters) l.told.items;
  count : length l.told.items ≡ length l.initial.told.items;
}
