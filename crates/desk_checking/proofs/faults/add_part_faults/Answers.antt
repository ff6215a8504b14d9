use Rattle.std.proofs.Common.{ap}
use Rattle.dmn_plan.specs.declared.fault.ModelFault.TheVariants as fault
use Rattle.desk_checking.specs.Told.{lines_of_fault}
use Rattle.desk_checking.proofs.Lines.{first, then}
use Rattle.desk_checking.proofs.faults.add_part_faults.Goals as goal

pub returns : goal.returns
returns c =
    then _ _ _ _ _ _
    (then _ _ _ _ _ _
    (then _ _ _ _ _ _
    (then _ _ _ _ _ _ (first _ _ _ _ c.in_ok-add_places.ensures (ap (lines_of_fault fault.Name) c.in_ok-unlawful.ensures.places)) c.in_ok-add_places-2.ensures
    (ap (lines_of_fault fault.Twice) c.in_ok-repeated.ensures.places))
    c.in_ok-add_places-3.ensures (ap (lines_of_fault fault.Expression) c.in_ok-unread.ensures.places))
    c.in_ok-add_places-4.ensures (ap (lines_of_fault fault.Table) c.in_ok-refused.ensures.places))
    c.in_ok-add_places-5.ensures (ap (lines_of_fault fault.Table) c.in_ok-unfit.ensures.places)
