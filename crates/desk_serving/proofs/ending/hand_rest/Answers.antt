use Rattle.std.proofs.Common.{◌∷◌, ◌++◌, [], refl, ◌∙◌}
use Rattle.std.proofs.lemmas.Result.{err_from_is_err_and}
use Rattle.lanes.specs.Rest.{mail_in}
use Rattle.desk_serving.specs.Owed.{AreOwn, AreFirstOwn, queue_in}
use Rattle.desk_wire.specs.Reports.{Report, Reply}
use Rattle.desk_serving.proofs.EndingLanes.{own_none, own_then, own_begun, own_released, run_handed}
use Rattle.desk_serving.proofs.Outcomes.{out_lost, out_refused}
use Rattle.desk_serving.proofs.Saying.{said_alone, tells_more, tells_none, tells_weaker}
use Rattle.desk_serving.proofs.ending.hand_rest.Goals as goal

pub loop-reply-init : goal.loop-reply-init
loop-reply-init g c = record { run = c.requires.run; counts = refl; tells = tells_none _ _ _ (own_none c.args.name.now (queue_in c.args.end.now)) }

pub loop-reply-preserved : goal.loop-reply-preserved
loop-reply-preserved g c =
    let n = c.args.name.now in let first = queue_in c.args.end.now in let old = c.loop-reply.end in let new = c.release.new.self in
    let e : Report = Reply n c.in-Some.reply.ticket c.in-Some.reply.outcome in
    let own = own_released n old new c.in-Some.reply.ticket c.in-Some.reply.outcome c.in-Some.ensures.handed c.in-Some.ensures.right c.in-Some.ensures.rest.0 in
    record {
      run = run_handed (mail_in old) (mail_in new) c.loop-reply.invariant.run c.in-Some.ensures.handed.2;
      counts = c.in_ok-add.ensures.counts (λ e. cc) ∙ c.loop-reply.invariant.counts;
      tells = tells_more (AreOwn n first (queue_in old)) (AreOwn n first (queue_in new)) _ _ _ _ _ _ _ (e ∷ []) (λ m p. own_then n first (queue_in old) (queue_in new) m (e ∷ []) p own)
          c.loop-reply.invariant.tells (said_alone e _ _ _ c.clear.ensures.items c.in_ok-say_reply.ensures c.deref.ensures.value) c.in_ok-add.ensures.said;
    }

pub returns-in_err-say_reply-clause-handed : goal.returns-in_err-say_reply-clause-handed
returns-in_err-say_reply-clause-handed g c =
    let n = c.args.name.now in let first = queue_in c.args.end.now in let old = queue_in c.loop-reply.end in
    let is = err_from_is_err_and c.from_residual.result c.from_residual.ensures.1 in
    rw (is.1, is.2)
    (out_refused _ (AreFirstOwn n first) (g.W.Sink.seen c.args.writer.now) (g.W.Sink.seen c.loop-reply.writer) _ _
    (tells_weaker (AreOwn n first old) (AreFirstOwn n first) _ _ _ _ (λ m p. own_begun n first old m p) c.loop-reply.invariant.tells) c.loop-reply.invariant.counts)

pub returns-in_err-add-clause-handed : goal.returns-in_err-add-clause-handed
returns-in_err-add-clause-handed g c =
    let n = c.args.name.now in let first = queue_in c.args.end.now in let old = c.loop-reply.end in let new = c.release.new.self in
    let e : Report = Reply n c.in-Some.reply.ticket c.in-Some.reply.outcome in
    let own = own_released n old new c.in-Some.reply.ticket c.in-Some.reply.outcome c.in-Some.ensures.handed c.in-Some.ensures.right c.in-Some.ensures.rest.0 in
    let told = c.in_err-add.ensures in
    let is = err_from_is_err_and c.from_residual-in_err-add.result c.from_residual-in_err-add.ensures.1 in
    rw (is.1, is.2)
    (out_lost (AreOwn n first (queue_in old)) _ (AreFirstOwn n first) (g.W.Sink.seen c.args.writer.now) (g.W.Sink.seen c.loop-reply.writer) (g.W.Sink.seen c.add.new.writer) _ _ _ _ (e ∷ []) c.in_err-add.field-0.0
    (λ m p. own_begun n first (queue_in old) m p) (λ m p. own_begun n first (queue_in new) (m ++ e ∷ []) (own_then n first (queue_in old) (queue_in new) m (e ∷ []) p own))
    c.loop-reply.invariant.tells c.loop-reply.invariant.counts (said_alone e _ _ _ c.clear.ensures.items c.in_ok-say_reply.ensures c.deref.ensures.value)
    told.part told.memory told.only told.counts told.fault)
