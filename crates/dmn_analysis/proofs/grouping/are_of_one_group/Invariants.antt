use Rattle.std.proofs.Common.{◌≡◌, Some, get_or, take}
use Rattle.std.specs.List.{All, slice_get}
use Rattle.dmn_analysis.proofs.grouping.are_of_one_group.Given as goal

abbrev pub invariant-loop-number : goal.invariant-loop-number
invariant-loop-number l = All (λ r. slice_get l.groups r ≡ Some (get_or l.groups (get_or l.left 0 0) 0)) (take l.number-index l.left)
