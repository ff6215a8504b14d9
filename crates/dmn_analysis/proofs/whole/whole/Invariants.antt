use Rattle.std.proofs.Common.{◌≡◌, length}
use Rattle.dmn_analysis.specs.Whole.{AreWhole}
use Rattle.dmn_analysis.proofs.whole.whole.Given as goal

abbrev pub invariant-loop-place : goal.invariant-loop-place
invariant-loop-place l = (length l.cells.items ≡ l.place) × AreWhole l.words l.asked l.cells.items
