use Rattle.std.proofs.Common.{◌∙◌, List, ℕ, refl, subst}
use Rattle.std.proofs.lemmas.Result.{err_from_is_err_and}
use Rattle.desk_serving.specs.LanesView.{lanes_in, names_in}
use Rattle.desk_serving.specs.Owed.{AreFirst, AreHanded}
use Rattle.desk_serving.proofs.Owing.{first_after, handed_none, handed_then}
use Rattle.desk_serving.proofs.Outcomes.{out_broken, out_failed, out_said}
use Rattle.desk_serving.proofs.Saying.{tells_none, tells_then}
use Rattle.desk_serving.proofs.ending.hand_out_beside.Goals as goal

pub loop-init : goal.loop-init
loop-init g c =
    let names = names_in c.args.lanes.now in let old = lanes_in c.args.lanes.now in
    record { same = refl; names = refl; clear = c.requires.clear; counts = refl; tells = tells_none (AreHanded names old old) _ _ (handed_none names old) }

pub loop-preserved : goal.loop-preserved
loop-preserved g c =
    let names = names_in c.args.lanes.now in let old = lanes_in c.args.lanes.now in let mid = lanes_in c.loop.lanes in let new = lanes_in c.hand_out_round.new.lanes in
    let told = c.in_ok-came.ensures.handed in
    record {
      same = c.in_ok-came.ensures.same ∙ c.loop.invariant.same;
      names = c.in_ok-came.ensures.names ∙ c.loop.invariant.names;
      clear = c.in_ok-came.ensures.clear c.loop.invariant.clear;
      counts = told.counts (λ e. cc) ∙ c.loop.invariant.counts;
      tells = tells_then (AreHanded names old mid) (AreHanded (names_in c.loop.lanes) mid new) (AreHanded names old new) _ _ _ _ _ _
          (λ m k p q. handed_then names old mid new m k p (subst (λ (ns : List (List ℕ)). AreHanded ns mid new k) c.loop.invariant.names q)) c.loop.invariant.tells told.ok;
    }

pub returns-in_err-came-clause-handed : goal.returns-in_err-came-clause-handed
returns-in_err-came-clause-handed g c =
    let names = names_in c.args.lanes.now in let old = lanes_in c.args.lanes.now in let mid = lanes_in c.loop.lanes in let new = lanes_in c.hand_out_round.new.lanes in
    let is = err_from_is_err_and c.from_residual.result c.from_residual.ensures.1 in
    rw (is.1, is.2)
    (out_broken (AreHanded names old mid) (AreHanded (names_in c.loop.lanes) mid new) (AreFirst (names_in c.loop.lanes) mid) _ (AreFirst names old)
    (g.W.Sink.seen c.args.writer.now) (g.W.Sink.seen c.loop.writer) (g.W.Sink.seen c.hand_out_round.new.writer) _ _ _ c.in_err-came.field-0.0
    (λ m k p q. first_after names old mid m k p (subst (λ (ns : List (List ℕ)). AreFirst ns mid k) c.loop.invariant.names q)) c.loop.invariant.tells c.loop.invariant.counts
    (out_failed _ _ _ _ _ _ c.in_err-came.field-0.0 c.in_err-came.ensures.handed))

pub returns-clause-handed : goal.returns-clause-handed
returns-clause-handed g c =
    let names = names_in c.args.lanes.now in let old = lanes_in c.args.lanes.now in
    out_said (AreHanded names old (lanes_in c.loop.lanes)) (AreFirst names old) (g.W.Sink.seen c.args.writer.now) (g.W.Sink.seen c.loop.writer) _ _ tt c.loop.invariant.tells c.loop.invariant.counts
