use Rattle.std.proofs.Common.{◌+◌, ◌<◌, ℕ, map}
use Rattle.feel_text.specs.NameOrder.{IsBefore, name_ranked}
use Rattle.feel_text.proofs.name_order.is_rising.Given as goal

abbrev pub invariant-loop-rank : goal.invariant-loop-rank
invariant-loop-rank g l =
    (rank : ℕ) → rank + 1 < l.rank → IsBefore (name_ranked (map g.T.HasName.name_of l.items) l.order rank) (name_ranked (map g.T.HasName.name_of l.items) l.order (rank + 1))
