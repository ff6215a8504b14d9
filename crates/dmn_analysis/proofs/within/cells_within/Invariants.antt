use Rattle.std.proofs.Common.{◌≡◌, ℕ, ◌<◌, Some}
use Rattle.std.specs.List.{slice_get}
use Rattle.dmn_analysis.specs.Joining.{IsCellWithin}
use Rattle.dmn_analysis.specs.declared.cell.Cell.{Cell}
use Rattle.dmn_analysis.proofs.within.cells_within.Given as goal

abbrev pub invariant-loop-place : goal.invariant-loop-place
invariant-loop-place l = (k : ℕ) (x y : Cell) → k < l.place → slice_get l.a k ≡ Some x → slice_get l.b k ≡ Some y → IsCellWithin x y
