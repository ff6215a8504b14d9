use Rattle.std.proofs.Common.{◌≡◌, drop, length}
use Rattle.dmn_ranges.specs.Services.{given_known, views}
use Rattle.dmn_ranges.proofs.service.give_members.Given as goal

abbrev pub invariant-loop-i : goal.invariant-loop-i
invariant-loop-i l = record {
  given : given_known l.domains 0 l.parameters (views l.initial.known.items) ≡ given_known l.domains l.i (drop l.i l.parameters) (views l.known.items);
  count : length l.known.items ≡ length l.initial.known.items;
}
