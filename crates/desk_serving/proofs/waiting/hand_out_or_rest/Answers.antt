use Rattle.std.proofs.lemmas.Result.{err_from_is_err_and}
use Rattle.desk_serving.specs.LanesView.{lanes_in, names_in}
use Rattle.desk_serving.specs.Owed.{AreFirst, AreHanded}
use Rattle.desk_serving.proofs.Owing.{handed_first}
use Rattle.desk_serving.proofs.Outcomes.{out_failed, out_refused, out_said}
use Rattle.desk_serving.proofs.Saying.{tells_weaker}
use Rattle.desk_serving.proofs.waiting.hand_out_or_rest.Goals as goal

pub returns-in_err-came-clause-handed : goal.returns-in_err-came-clause-handed
returns-in_err-came-clause-handed g c =
    let is = err_from_is_err_and c.from_residual.result c.from_residual.ensures.1 in
    rw (is.1, is.2) (out_failed _ _ _ _ _ _ c.in_err-came.field-0.0 c.in_err-came.ensures.handed)

pub returns-in_err-rest_fed-clause-handed : goal.returns-in_err-rest_fed-clause-handed
returns-in_err-rest_fed-clause-handed g c =
    let names = names_in c.args.lanes.now in let old = lanes_in c.args.lanes.now in let new = lanes_in c.hand_out_round.new.lanes in
    let told = c.in_ok-came.ensures.handed in
    let is = err_from_is_err_and c.from_residual-in_err-rest_fed.result c.from_residual-in_err-rest_fed.ensures.1 in
    rw (is.1, is.2)
    (out_refused _ (AreFirst names old) (g.W.Sink.seen c.args.writer.now) (g.W.Sink.seen c.hand_out_round.new.writer) _ _
    (tells_weaker (AreHanded names old new) (AreFirst names old) _ _ _ _ (λ m h. handed_first names old new m h) told.ok)
    (told.counts (λ e. cc)))

pub returns-clause-handed : goal.returns-clause-handed
returns-clause-handed g c =
    let names = names_in c.args.lanes.now in let old = lanes_in c.args.lanes.now in let new = lanes_in c.hand_out_round.new.lanes in
    let told = c.in_ok-came.ensures.handed in
    out_said (AreHanded names old new) (AreFirst names old) (g.W.Sink.seen c.args.writer.now) (g.W.Sink.seen c.hand_out_round.new.writer) _ _ tt told.ok (told.counts (λ e. cc))
