use Rattle.dmn_check.proofs.Marking.{IsMarked}
use Rattle.dmn_check.proofs.marks.marks_of.Given as goal

abbrev pub invariant-loop-item : goal.invariant-loop-item
invariant-loop-item g l = IsMarked l.fault g.T.Named.name_of l.items l.item-index l.seen l.marks.items
