use Rattle.std.proofs.Common.{◌≡◌, ◌<◌, length, map}
use Rattle.std.specs.List.{All}
use Rattle.dmn_analysis.specs.Searching.{AreLeft, Scene}
use Rattle.dmn_analysis.specs.Sharing.{IsRising}
use Rattle.dmn_analysis.proofs.Searches.{Sifted}
use Rattle.dmn_analysis.proofs.Sharings.{AreSome}
use Rattle.dmn_analysis.proofs.searching.possible.Given as goal

abbrev pub invariant-loop-number : goal.invariant-loop-number
invariant-loop-number l =
    ((s : Scene) → s.words ≡ l.words → s.rules ≡ l.rows → AreLeft s l.cells l.left → Sifted s l.cells l.left l.kept.items l.number-index)
    × All (λ r. r < length l.rows) l.kept.items
    × (IsRising l.left → AreSome l.left l.kept.items l.number-index)
