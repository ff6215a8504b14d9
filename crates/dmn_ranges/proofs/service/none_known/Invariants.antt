use Rattle.std.proofs.Common.{◌≡◌, length}
use Rattle.dmn_ranges.proofs.service.none_known.Given as goal

abbrev pub invariant-loop : goal.invariant-loop
invariant-loop l = length l.known.items ≡ l.counter
