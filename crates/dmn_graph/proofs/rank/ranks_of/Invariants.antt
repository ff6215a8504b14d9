use Rattle.std.proofs.Common.{◌≡◌, length}
use Rattle.dmn_graph.proofs.Ranking.{AreFirstRanks}
use Rattle.dmn_graph.proofs.rank.ranks_of.Given as goal

abbrev pub invariant-loop-rank : goal.invariant-loop-rank
invariant-loop-rank l = record { sized : length l.ranks.items ≡ length l.needs; ranks : AreFirstRanks l.order l.ranks.items l.rank }
