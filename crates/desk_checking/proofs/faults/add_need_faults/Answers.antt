use Rattle.std.proofs.Common.{ap}
use Rattle.dmn_plan.specs.declared.fault.ModelFault.TheVariants as fault
use Rattle.desk_checking.specs.Told.{lines_of_fault}
use Rattle.desk_checking.proofs.Lines.{first, known_as, then}
use Rattle.desk_checking.proofs.faults.add_need_faults.Goals as goal

pub returns : goal.returns
returns c =
    then _ _ _ _ _ _
    (then _ _ _ _ _ _
    (then _ _ _ _ _ _ (first _ _ _ _ c.in_ok-add_places.ensures (ap (lines_of_fault fault.Unknown) c.in_ok-unknown.ensures.places)) c.in_ok-add_known.ensures
    (known_as _ _ fault.Cycle _ c.in_ok-rings.ensures.none c.in_ok-rings.ensures.places))
    c.in_ok-add_known-2.ensures (known_as _ _ fault.Service _ c.in_ok-unfit.ensures.none c.in_ok-unfit.ensures.places))
    c.in_ok-add_places-2.ensures (ap (lines_of_fault fault.Large) c.in_ok-large.ensures.places)
