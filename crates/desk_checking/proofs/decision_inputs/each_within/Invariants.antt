use Rattle.std.proofs.Common.{◌≡◌, drop, length}
use Rattle.desk_checking.specs.ComesView.{AreWiderAsked}
use Rattle.desk_checking.proofs.decision_inputs.each_within.Given as goal

abbrev pub invariant-loop-one : goal.invariant-loop-one
invariant-loop-one l = record {
  left : drop (length l.within.items) l.fn.asked.items ≡ l.one-iterator.rest.items;
  wider : AreWiderAsked l.fn.asked.items l.within.items;
}
