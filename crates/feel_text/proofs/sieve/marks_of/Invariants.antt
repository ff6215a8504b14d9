use Rattle.std.proofs.Common.{take}
use Rattle.std.specs.List.{All}
use Rattle.feel_text.specs.Sieves.{IsMarked}
use Rattle.feel_text.proofs.sieve.marks_of.Given as goal

abbrev pub invariant-loop-value : goal.invariant-loop-value
invariant-loop-value l = All (IsMarked l.marks) (take l.value-index l.values)
