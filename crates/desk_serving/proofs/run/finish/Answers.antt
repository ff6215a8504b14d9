use Rattle.std.proofs.Common.{Err, ap, inl, inr}
use Rattle.std.proofs.lemmas.Result.{err_from_is_err_and}
use Rattle.desk_serving.specs.Ending.{ends_lanes}
use Rattle.desk_serving.specs.LanesView.{names_in}
use Rattle.desk_serving.proofs.Finishing.{finishes_by}
use Rattle.desk_serving.proofs.Fronting.{due_to_whole}
use Rattle.desk_serving.proofs.run.finish.Goals as goal

pub returns-in_err-ended-clause-err : goal.returns-in_err-ended-clause-err
returns-in_err-ended-clause-err g c =
    let ends = c.in_ok-ends.ends.items in
    let told = c.in_ok-ends.ensures in
    let e = err_from_is_err_and c.from_residual-in_err-ended.result c.from_residual-in_err-ended.ensures.1 in
    rw (e.1, e.2) (inr (inr (c.in_err-ended.was, inl (c.goes_on.ensures.0 c.if-goes_on.true, (ends_lanes ends, told.written.ok, due_to_whole (names_in c.args.lanes) ends told.whole)))))

pub returns-in_err-ends-clause-err : goal.returns-in_err-ends-clause-err
returns-in_err-ends-clause-err g c =
    let told = c.in_err-ends.ensures.written in
    let e = err_from_is_err_and c.from_residual.result c.from_residual.ensures.1 in
    rw (e.1, e.2) (finishes_by _ _ _ _ c.args.ended c.in_err-ends.field-0.0 (c.goes_on.ensures.0 c.if-goes_on.true) told.only (λ w. told.write (ap Err w)) (λ m. told.memory (ap Err m)))
