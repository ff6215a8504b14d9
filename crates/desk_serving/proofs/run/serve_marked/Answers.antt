use Rattle.std.proofs.Common.{arith, length, ◌≡◌, None, ap, refl, sym, ◌∙◌, map, string_bytes}
use denote.Exit.{no}
use denote.Param.{param}
use denote.Param.Send.{arg_send, arg_sync, param_send, param_sync}
use Rattle.std.proofs.lemmas.Result.{IfOk-weaker, err_from_is_err_and}
use Rattle.desk_serving.proofs.EndingLanes.{booked_rest}
use Rattle.desk_serving.proofs.Finishing.{ends_whole, lanes_begun, served_ran}
use Rattle.desk_serving.proofs.Fronting.{after_none}
use Rattle.desk_serving.proofs.Running.{ends_of, new_booked, nothing_served, ran_stopped, some_answered, stops_same, stops_unread}
use Rattle.desk_serving.proofs.Sendable.{Task-send, Task-sync}
use Rattle.desk_serving.proofs.run.serve_marked.Goals as goal

pub returns-in_default-clause-ran : goal.returns-in_default-clause-ran
returns-in_default-clause-ran g c = ran_stopped _ _ _ _ _ _ (stops_unread _ _ _ (nothing_served c.args.options.clients)) refl

pub returns-in_err-lanes-clause-ran : goal.returns-in_err-lanes-clause-ran
returns-in_err-lanes-clause-ran g c =
    let e = err_from_is_err_and c.from_residual.result c.from_residual.ensures.1 in
    rw (e.1, e.2) (ran_stopped _ _ _ _ _ _ (stops_unread _ _ _ (nothing_served c.args.options.clients)) refl)

pub beside-ran-requires-send-W : goal.beside-ran-requires-send-W
beside-ran-requires-send-W g c κs within = param_send _ _ (arg_send _ no _ (Task-send (param 0 g.row.C) _))

pub beside-ran-requires-sync-W : goal.beside-ran-requires-sync-W
beside-ran-requires-sync-W g c κs within = param_sync _ _ (arg_sync _ no _ (Task-sync (param 0 g.row.C) _))

pub beside-ran-requires-clause-ready : goal.beside-ran-requires-clause-ready
beside-ran-requires-clause-ready g c κs within = (
  c.requires.read_counts,
  c.requires.write_counts,
  after_none (record { rt = c.args.rt; lanes = c.in_ok-lanes.lanes; plan = None; marks = c.args.marks; texts = _ }) (ap (map string_bytes) c.in_ok-lanes.ensures.names) refl
      (rw (c.in_ok-lanes.ensures.lanes) (new_booked _ c.in-Ok.clients.items c.in-Ok.ensures.new.0)),
)

pub finish-requires-clause-ends : goal.finish-requires-clause-ends
finish-requires-clause-ends g c =
    let b = c.in_ok-ended.ensures in
    rw (b.done.links, b.ends, c.in_ok-lanes.ensures.links) c.in-Ok.ensures.one_call

pub finish-requires-clause-new : goal.finish-requires-clause-new
finish-requires-clause-new g c = λ goes place lane le at.
    let done = c.in_ok-ended.ensures.done in
    let after = some_answered _ _ _ _ _ _ c.in_ok-ended.ended goes (ends_of _ _ _ _ _ _ c.in_ok-ended.ended done.ran.ok done.ran.fault) in
    booked_rest _ _ after.2.readings after.2.stands.booked place lane le at

pub finish-requires-clause-clear : goal.finish-requires-clause-clear
finish-requires-clause-clear g c = c.in_ok-ended.ensures.done.waits

pub returns-in_err-ended-clause-ran : goal.returns-in_err-ended-clause-ran
returns-in_err-ended-clause-ran g c =
    let e = err_from_is_err_and c.from_residual-in_err-ended.result c.from_residual-in_err-ended.ensures.1 in
    let same = c.in_err-ended.ensures.refused in
    rw (e.1, e.2) (ran_stopped _ _ _ _ _ _ (stops_same _ _ _ _ _
    (ap (λ r. (g.R.Source.seen r).remaining) (c.reader-1.given.1 (sym (ap (λ f. f.reader.ghost_name) same)) ∙ c.take_back.ensures ∙ ap (λ f. f.reader.now) same))
    (ap (λ w. (g.W.Sink.seen w).contents) (c.in_err-ended.writer-1-own.given.1 (sym (ap (λ f. f.writer.ghost_name) same)) ∙ ap (λ f. f.writer.now) same))
    (nothing_served c.args.options.clients))
    (ap (λ w. (g.W.Sink.seen w).faults) (c.in_err-ended.writer-1-own.given.1 (sym (ap (λ f. f.writer.ghost_name) same)) ∙ ap (λ f. f.writer.now) same)))

pub returns-clause-ran : goal.returns-clause-ran
returns-clause-ran g c =
    let done = c.in_ok-ended.ensures.done in let finished = c.finish.ensures in
    let count : length c.in-Ok.clients.items ≡ c.args.options.clients = omega (arith, c.in-Ok.clients.ok, c.in-Ok.ensures.count.0) in
    rw (c.reader-1.given.1 (sym done.reader) ∙ c.take_back.ensures, c.writer-2-1.given.1 (sym done.writer))
    (served_ran c.in_ok-lanes.lanes c.beside-ran.new.host.state c.args.options.clients (lanes_begun c.in_ok-lanes.lanes c.in-Ok.clients.items c.args.options.clients c.in_ok-lanes.ensures.lanes count) done.links _ _ _ _ _ c.in_ok-ended.ended done.ran
    (λ ends. ends.items) c.finish.result done.writes finished.ok finished.err finished.counts finished.fault (λ n. ap g.W.Sink.seen (finished.same n)))

pub returns-clause-ends : goal.returns-clause-ends
returns-clause-ends g c =
    let done = c.in_ok-ended.ensures.done in
    let count : length c.in-Ok.clients.items ≡ c.args.options.clients = omega (arith, c.in-Ok.clients.ok, c.in-Ok.ensures.count.0) in
    IfOk-weaker c.finish.result _ _
    (λ ends h. rw (c.reader-1.given.1 (sym done.reader) ∙ c.take_back.ensures, c.writer-2-1.given.1 (sym done.writer))
    (ends_whole c.in_ok-lanes.lanes c.beside-ran.new.host.state c.args.options.clients (lanes_begun c.in_ok-lanes.lanes c.in-Ok.clients.items c.args.options.clients c.in_ok-lanes.ensures.lanes count) done.links _ _ _ _ (g.W.Sink.seen c.finish.new.writer) c.in_ok-ended.ended done.ran ends.items h.0 h.1))
    c.finish.ensures.ok
