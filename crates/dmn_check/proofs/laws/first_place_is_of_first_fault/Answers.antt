use Rattle.dmn_check.proofs.FirstFaultLaw.{first_place_is_first_fault}
use Rattle.dmn_check.proofs.laws.first_place_is_of_first_fault.Goals as goal

pub returns : goal.returns
returns c m = first_place_is_first_fault m
