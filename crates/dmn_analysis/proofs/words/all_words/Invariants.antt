use Rattle.std.proofs.Common.{◌≡◌, length}
use Rattle.dmn_analysis.specs.Cells.{AllInOrder}
use Rattle.dmn_analysis.proofs.words.all_words.Given as goal

abbrev pub invariant-loop-place : goal.invariant-loop-place
invariant-loop-place l = (length l.all.items ≡ l.place) × AllInOrder l.all.items
