use Rattle.std.proofs.Common.{◌≡◌, ℕ, ℤ, ◌+◌, ◌<◌, Some}
use Rattle.std.specs.Prelude.{◌≤ℤ◌}
use Rattle.std.specs.List.{slice_get}
use Rattle.dmn_analysis.proofs.listing.are_rising.Given as goal

abbrev pub invariant-loop-i : goal.invariant-loop-i
invariant-loop-i l = (k : ℕ) (a b : ℤ) → k + 1 < l.i → slice_get l.numbers k ≡ Some a → slice_get l.numbers (k + 1) ≡ Some b → a ≤ℤ b
