use Rattle.std.proofs.Common.{◌≡◌, true}
use Rattle.desk_checking.proofs.SameValues.{AreSameBelow}
use Rattle.desk_checking.proofs.same_outputs.gives_differ.Given as goal

-- what is the same in the columns so far
abbrev pub invariant-loop-column : goal.invariant-loop-column
invariant-loop-column l = l.is_known ≡ true → AreSameBelow l.column l.ones l.others
