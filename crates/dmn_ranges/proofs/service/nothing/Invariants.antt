use Rattle.std.proofs.Common.{◌≡◌, ℕ, length}
use Rattle.dmn_ranges.specs.Services.{told_at, not_found}
use Rattle.dmn_ranges.proofs.service.nothing.Given as goal

abbrev pub invariant-loop : goal.invariant-loop
invariant-loop l = record { count : length l.told.items ≡ l.counter; nothing : (q : ℕ) → told_at l.told.items q ≡ not_found }
