use Rattle.std.proofs.Common.{◌≡◌, length}
use Rattle.dmn_service.specs.Run.{values_in, nothing_found}
use Rattle.dmn_service.proofs.found.nothing.Given as goal

abbrev pub invariant-loop : goal.invariant-loop
invariant-loop l = record { count : length l.found.items ≡ l.counter; nothing : values_in l.found.items ≡ nothing_found }
