use Rattle.std.proofs.lemmas.Result.{err_from_is_err_and}
use Rattle.lanes.proofs.worker.Worker.add.Goals as goal

pub returns-in_err-push : goal.returns-in_err-push
returns-in_err-push g c = rw (err_from_is_err_and c.from_residual.result c.from_residual.ensures.1).1 tt
