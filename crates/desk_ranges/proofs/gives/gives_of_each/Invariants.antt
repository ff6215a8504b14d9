use Rattle.std.proofs.Common.{map, take}
use Rattle.desk_ranges.specs.Gives.{TellsEach, written_name}
use Rattle.desk_ranges.proofs.gives.gives_of_each.Given as goal

abbrev pub invariant-loop-place : goal.invariant-loop-place
invariant-loop-place l = TellsEach l.plan l.domains (map written_name (take l.place l.services)) l.gives
