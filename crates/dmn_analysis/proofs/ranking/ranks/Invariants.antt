use Rattle.std.proofs.Common.{◌≡◌, length}
use Rattle.dmn_analysis.specs.Ranking.{AreRanks}
use Rattle.dmn_analysis.proofs.ranking.ranks.Given as goal

abbrev pub invariant-loop-place : goal.invariant-loop-place
invariant-loop-place l = (length l.ranks.items ≡ l.place) × AreRanks l.table.outputs l.table.rules l.ranks.items
