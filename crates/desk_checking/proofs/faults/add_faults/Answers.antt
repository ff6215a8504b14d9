use Rattle.std.proofs.Common.{refl}
use Rattle.desk_checking.proofs.Lines.{then}
use Rattle.desk_checking.proofs.faults.add_faults.Goals as goal

pub returns : goal.returns
returns c = then _ _ _ _ _ _ c.in_ok-add_part_faults.ensures c.in_ok-add_need_faults.ensures refl
