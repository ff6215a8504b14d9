use Rattle.std.proofs.Common.{◌-◌, ◌≤◌, map, length}
use Rattle.feel_text.proofs.Ordered.{AreBefore, AreAfter}
use Rattle.feel_text.proofs.name_order.found_by_halves.Given as goal

abbrev pub invariant-loop-low : goal.invariant-loop-low
invariant-loop-low g l = record {
  within : l.high ≤ length l.items;
  before : AreBefore (map g.T.HasName.name_of l.items) l.order l.name l.low;
  after : AreAfter (map g.T.HasName.name_of l.items) l.order l.name l.high;
}

abbrev pub decreases-loop-low : goal.decreases-loop-low
decreases-loop-low g l = l.high - l.low
