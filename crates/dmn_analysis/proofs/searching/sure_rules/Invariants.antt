use Rattle.std.specs.List.{All}
use Rattle.dmn_analysis.specs.Sharing.{IsMustHit, IsRising}
use Rattle.dmn_analysis.proofs.Sharings.{AreSome}
use Rattle.dmn_analysis.proofs.searching.sure_rules.Given as goal

abbrev pub invariant-loop-number : goal.invariant-loop-number
invariant-loop-number l = All (IsMustHit l.words l.rows l.cells) l.sure.items × (IsRising l.left → AreSome l.left l.sure.items l.number-index)
