use Rattle.std.proofs.Common.{◌≡◌, [], map}
use Rattle.dmn_analysis.specs.Constant.{AreConstant}
use Rattle.dmn_analysis.specs.Searching.{Knows, Scene}
use Rattle.dmn_analysis.proofs.gaps.go_through.Given as goal

abbrev pub invariant-loop-turn : goal.invariant-loop-turn
invariant-loop-turn l =
    ((s : Scene) → s.words ≡ l.words → s.rules ≡ l.rows → s.chosen ≡ l.chosen → s.first ≡ l.fn.first.left.items → s.whole ≡ l.fn.first.cells.items → Knows s l.search)
    × (AreConstant l.rows → l.search.open.items ≡ [])
