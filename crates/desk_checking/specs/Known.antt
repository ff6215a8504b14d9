-- Internal, cited by no public contract: the lines of what may not be known.
use Rattle.std.specs.Prelude.{ℕ, List, [], Option, Some, None}
use Rattle.dmn_plan.specs.declared.fault.ModelFault.{ModelFault}
use Rattle.dmn_check.specs.Told.{Told}
use Rattle.desk_checking.specs.Told.{lines_of_fault}

-- the lines of a fault, where its places are known
abbrev pub known_lines : ModelFault → Option Told → List (List ℕ)
known_lines f None = []
known_lines f (Some told) = lines_of_fault f told
