use Rattle.std.proofs.Common.{◌≡◌}
use Rattle.dmn_analysis.specs.Grouping.{KnowsGroups}
use Rattle.dmn_analysis.specs.Searching.{Scene}
use Rattle.dmn_analysis.proofs.grouping.go_through.Given as goal

abbrev pub invariant-loop-turn : goal.invariant-loop-turn
invariant-loop-turn l = (s : Scene) → s.words ≡ l.words → s.rules ≡ l.rows → s.first ≡ l.fn.first.left.items → s.whole ≡ l.fn.first.cells.items → KnowsGroups s l.groups l.pending.items
