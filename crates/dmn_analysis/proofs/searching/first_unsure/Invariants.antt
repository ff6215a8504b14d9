use Rattle.std.proofs.Common.{◌≡◌, ◌<◌, ℕ, map, Some}
use Rattle.std.specs.List.{slice_get}
use Rattle.dmn_analysis.specs.Sharing.{IsMustHit}
use Rattle.dmn_analysis.proofs.searching.first_unsure.Given as goal

abbrev pub invariant-loop-number : goal.invariant-loop-number
invariant-loop-number l = (k r : ℕ) → k < l.number-index → slice_get l.left k ≡ Some r → IsMustHit l.words l.rows l.cells r
