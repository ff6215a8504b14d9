use Rattle.std.proofs.Common.{None, Some, ap, map, subst, sym}
use Rattle.std.proofs.lemmas.Result.{on_ok_weaker}
use Rattle.dmn_plan.specs.Request.{Request, request_result}
use Rattle.lanes.specs.Books.{work_of}
use Rattle.lanes.specs.Clients.{came_to, mail_of, reply_of}
use Rattle.desk_serving.specs.Owed.{Lane, LosesFirst, ToRequest, as_queue, lane_of, queue_of}
use Rattle.desk_serving.specs.Waits.{with_waits}
use Rattle.desk_serving.proofs.Laning.{behind_kept, lost_waits, own_none, own_reply, poll_handed, poll_nothing, poll_right, unpolled}
use Rattle.desk_serving.proofs.Owing.{next_handed}
use Rattle.desk_serving.proofs.client_lane.ClientLane.hand_out_next.Goals as goal

pub returns-clause-hands : goal.returns-clause-hands
returns-clause-hands g c =
    let self = c.args.self.now in let old = self.client in let new = c.poll.new.self in let told = c.in-Some.ensures in let waits = self.waits.items in
    let h = poll_handed (λ (q : Request). q) request_result old new (Some c.in-Some.reply) told.put told.polls in
    let r = poll_right (λ (q : Request). q) request_result old new (Some c.in-Some.reply) told.polls told.right in
    let lane = lane_of old in
    let lost : LosesFirst (ToRequest lane.handed r.0) (queue_of old) (queue_of new) =
    subst (λ (l : Lane). LosesFirst (ToRequest lane.handed r.0) (queue_of old) (as_queue l)) (sym h.1) (next_handed lane r.0 r.1) in
    on_ok_weaker c.add_to.result
    (λ is. own_reply c.args.name.now (with_waits (queue_of old) waits) (with_waits (queue_of new) waits) r.0 lane.handed c.in-Some.reply.ticket c.in-Some.reply.outcome c.args.text.now.items c.add_to.new.text.items
    (lost_waits (ToRequest lane.handed r.0) (queue_of old) (queue_of new) waits lost) h.0 r.2 is)
    c.add_to.ensures

pub returns-in_default-clause-hands : goal.returns-in_default-clause-hands
returns-in_default-clause-hands g c =
    let self = c.args.self.now in let old = self.client in let new = c.poll.new.self in let told = c.in_default.ensures in let waits = self.waits.items in
    own_none c.args.name.now (with_waits (queue_of old) waits) (with_waits (queue_of new) waits) c.args.text.now.items
    (ap (λ (l : Lane). with_waits (as_queue l) waits) (poll_nothing (λ (q : Request). q) request_result old new None told.put told.polls))

pub returns-clause-polled : goal.returns-clause-polled
returns-clause-polled g c = (reply_of c.poll.result, c.poll.ensures.polls)

pub returns-in_default-clause-polled : goal.returns-in_default-clause-polled
returns-in_default-clause-polled g c = (reply_of c.poll.result, c.poll.ensures.polls)

pub returns-then-is_whole-clause-polled : goal.returns-then-is_whole-clause-polled
returns-then-is_whole-clause-polled g c =
    let client = c.args.self.now.client in
    (None, unpolled (λ (q : Request). q) request_result (came_to client) (mail_of client) (c.is_whole.ensures.0 c.if-is_whole.true))

pub invariant_of-self : goal.invariant_of-self
invariant_of-self g c =
    let self = c.args.self.now in record { behind = behind_kept (queue_of self.client) (queue_of c.poll.new.self) self.waits.items (ap (map work_of) c.poll.ensures.put) self.behind }
