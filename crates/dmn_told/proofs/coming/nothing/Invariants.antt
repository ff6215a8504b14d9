use Rattle.std.proofs.Common.{◌≡◌, length}
use Rattle.dmn_told.proofs.coming.nothing.Given as goal

abbrev pub invariant-loop : goal.invariant-loop
invariant-loop l = length l.told.items ≡ l.counter
