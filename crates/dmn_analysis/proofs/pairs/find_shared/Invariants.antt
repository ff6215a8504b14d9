use Rattle.std.proofs.Common.{◌≡◌, [], map}
use Rattle.dmn_analysis.specs.Constant.{AreConstant}
use Rattle.dmn_analysis.specs.Searching.{Scene}
use Rattle.dmn_analysis.specs.Sharing.{IsRising, KnowsPairs}
use Rattle.dmn_analysis.proofs.pairs.find_shared.Given as goal

abbrev pub invariant-loop-turn : goal.invariant-loop-turn
invariant-loop-turn l =
    ((s : Scene) → s.words ≡ l.words → s.rules ≡ l.rows → s.first ≡ l.fn.first.left.items → s.whole ≡ l.fn.first.cells.items → IsRising l.fn.first.left.items → KnowsPairs s l.search)
    × (AreConstant l.rows → l.search.open.items ≡ [])
