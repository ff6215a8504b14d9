use Rattle.std.proofs.Common.{◌∙◌, ◌<◌, ◌-◌, ◌^◌, List, ℕ, subst, sym}
use Rattle.std.proofs.lemmas.Result.{err_from_is_err_and}
use Rattle.desk_serving.specs.LanesView.{lanes_in, names_in}
use Rattle.desk_serving.specs.Owed.{AreFirst, AreHanded}
use Rattle.desk_serving.specs.Telling.{HandsOut, Tells}
use Rattle.desk_serving.proofs.Owing.{first_after, handed_then}
use Rattle.desk_serving.proofs.Outcomes.{out_broken, out_failed, out_said}
use Rattle.desk_serving.proofs.Running.{failed}
use Rattle.desk_serving.proofs.Saying.{tells_then}
use Rattle.desk_serving.proofs.ending.hand_out_last.Goals as goal

pub hand_out_beside-requires-clause-counts : goal.hand_out_beside-requires-clause-counts
hand_out_beside-requires-clause-counts g c = subst (λ n. n < 2 ^ 64 - 1) (sym (c.in_ok-hand_out_waits.ensures.handed.counts (λ e. cc))) c.requires.counts

pub returns-in_err-hand_out_waits-clause-handed : goal.returns-in_err-hand_out_waits-clause-handed
returns-in_err-hand_out_waits-clause-handed g c =
    let names = names_in c.args.lanes.now in let old = lanes_in c.args.lanes.now in let new = lanes_in c.hand_out_waits.new.lanes in let fault = c.in_err-hand_out_waits.field-0.0 in
    let is = err_from_is_err_and c.from_residual.result c.from_residual.ensures.1 in
    rw (is.1, is.2)
    (out_failed _ _ (g.W.Sink.seen c.args.writer.now) (g.W.Sink.seen c.hand_out_waits.new.writer) _ _ fault
    (subst (λ (before : List ℕ). HandsOut (AreHanded names old new) (AreFirst names old) (g.W.Sink.seen c.args.writer.now) (g.W.Sink.seen c.hand_out_waits.new.writer) before c.hand_out_waits.new.unwritten (failed (Unit {0}) fault)) c.requires.nothing_waits
    c.in_err-hand_out_waits.ensures.handed))

pub returns-in_err-hand_out_beside-clause-handed : goal.returns-in_err-hand_out_beside-clause-handed
returns-in_err-hand_out_beside-clause-handed g c =
    let names = names_in c.args.lanes.now in let old = lanes_in c.args.lanes.now in let mid = lanes_in c.hand_out_waits.new.lanes in let new = lanes_in c.hand_out_beside.new.lanes in
    let first = c.in_ok-hand_out_waits.ensures in
    let is = err_from_is_err_and c.from_residual-in_err-hand_out_beside.result c.from_residual-in_err-hand_out_beside.ensures.1 in
    rw (is.1, is.2)
    (out_broken (AreHanded names old mid) (AreHanded (names_in c.hand_out_waits.new.lanes) mid new) (AreFirst (names_in c.hand_out_waits.new.lanes) mid) _ (AreFirst names old)
    (g.W.Sink.seen c.args.writer.now) (g.W.Sink.seen c.hand_out_waits.new.writer) (g.W.Sink.seen c.hand_out_beside.new.writer) _ _ _ c.in_err-hand_out_beside.field-0.0
    (λ m k p q. first_after names old mid m k p (subst (λ (ns : List (List ℕ)). AreFirst ns mid k) first.names q))
    (subst (λ (before : List ℕ). Tells (AreHanded names old mid) (g.W.Sink.seen c.args.writer.now).contents (g.W.Sink.seen c.hand_out_waits.new.writer).contents before c.hand_out_waits.new.unwritten) c.requires.nothing_waits
    first.handed.ok) (first.handed.counts (λ e. cc))
    (out_failed _ _ _ _ _ _ c.in_err-hand_out_beside.field-0.0 c.in_err-hand_out_beside.ensures.handed))

pub returns-clause-handed : goal.returns-clause-handed
returns-clause-handed g c =
    let names = names_in c.args.lanes.now in let old = lanes_in c.args.lanes.now in let mid = lanes_in c.hand_out_waits.new.lanes in let new = lanes_in c.hand_out_beside.new.lanes in
    let first = c.in_ok-hand_out_waits.ensures in let then = c.in_ok-hand_out_beside.ensures in
    out_said (AreHanded names old new) (AreFirst names old) (g.W.Sink.seen c.args.writer.now) (g.W.Sink.seen c.hand_out_beside.new.writer) _ _ tt
    (tells_then (AreHanded names old mid) (AreHanded (names_in c.hand_out_waits.new.lanes) mid new) (AreHanded names old new) _ _ _ _ _ _
    (λ m k p q. handed_then names old mid new m k p (subst (λ (ns : List (List ℕ)). AreHanded ns mid new k) first.names q))
    (subst (λ (before : List ℕ). Tells (AreHanded names old mid) (g.W.Sink.seen c.args.writer.now).contents (g.W.Sink.seen c.hand_out_waits.new.writer).contents before c.hand_out_waits.new.unwritten) c.requires.nothing_waits
    first.handed.ok) then.handed.ok)
    (then.handed.counts (λ e. cc) ∙ first.handed.counts (λ e. cc))
