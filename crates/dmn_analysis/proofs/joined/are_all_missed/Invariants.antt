use Rattle.std.proofs.Common.{map, take}
use Rattle.std.specs.List.{All}
use Rattle.dmn_analysis.specs.Joining.{AreMissed}
use Rattle.dmn_analysis.proofs.joined.are_all_missed.Given as goal

abbrev pub invariant-loop-one : goal.invariant-loop-one
invariant-loop-one l = All (AreMissed l.words l.rows l.count) (take l.one-index l.all)
