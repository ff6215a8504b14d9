use Rattle.std.proofs.Common.{◌≡◌, ◌<◌, ℕ, Some, length}
use Rattle.std.specs.List.{slice_get, All}
use Rattle.dmn_analysis.specs.Searching.{IsAmong}
use Rattle.dmn_analysis.specs.Sharing.{IsRising}
use Rattle.dmn_analysis.proofs.gap_answers.places.Given as goal

abbrev pub invariant-loop-place : goal.invariant-loop-place
invariant-loop-place l = (All (λ r. r < l.count) l.places.items × (length l.places.items ≡ l.place)) × ((r : ℕ) → r < l.place → IsAmong l.places.items r) × IsRising l.places.items × ((k y : ℕ) → slice_get l.places.items k ≡ Some y → y < l.place)
