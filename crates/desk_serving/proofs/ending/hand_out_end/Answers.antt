use Rattle.std.proofs.Common.{refl, subst}
use Rattle.std.proofs.lemmas.Result.{err_from_is_err_and}
use Rattle.desk_serving.specs.Owed.{AreFirstOwn, AreOwn, Queue, queue_in}
use Rattle.desk_serving.specs.Telling.{HandsOut}
use Rattle.desk_serving.proofs.EndingLanes.{own_begun, own_none}
use Rattle.desk_serving.proofs.Outcomes.{out_refused}
use Rattle.desk_serving.proofs.Saying.{tells_none}
use Rattle.desk_serving.proofs.ending.hand_out_end.Goals as goal

pub returns-in_err-run_left-clause-handed : goal.returns-in_err-run_left-clause-handed
returns-in_err-run_left-clause-handed g c =
    let n = c.args.name.now in let lane = queue_in c.args.end.now in
    let is = err_from_is_err_and c.from_residual.result c.from_residual.ensures.1 in
    rw (is.1, is.2) (out_refused _ (AreFirstOwn n lane) _ _ _ _ (tells_none (AreFirstOwn n lane) _ _ (own_begun n lane lane _ (own_none n lane))) refl)

pub returns-clause-handed : goal.returns-clause-handed
returns-clause-handed g c =
    let n = c.args.name.now in
    subst (λ (l : Queue). HandsOut (AreOwn n l (queue_in c.hand_rest.new.end)) (AreFirstOwn n l) (g.W.Sink.seen c.args.writer.now) (g.W.Sink.seen c.hand_rest.new.writer)
    c.args.unwritten.now c.hand_rest.new.unwritten c.hand_rest.result)
    c.run_left.ensures.lane c.hand_rest.ensures.handed
