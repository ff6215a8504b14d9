use Rattle.crossbeam_deque.specs.Handles.{worker_view}
use Rattle.std.proofs.Common.{◌≤◌, length, vec_capacity, refl, sym, ap, ◌∙◌, subst, arith}
use Rattle.lanes.specs.Clients.{mail_of}
use Rattle.lanes.proofs.Accounting.{Fits}
use Rattle.lanes.proofs.Lane.{room_left, lane}
use Rattle.lanes.proofs.ending.settle_lane.Goals as goal

pub pop_rest-requires-clause-room : goal.pop_rest-requires-clause-room
pop_rest-requires-clause-room g c =
    let self = c.client.inside in let joins = c.join_ports.ensures.joins in
    let room = room_left g.W.Work.request g.W.Work.result_of (worker_view self.owner).put self.mailbox c.args.column.now.items self.rings.items (worker_view self.owner) (worker_view c.join_ports.new.owner) joins.0 joins.1 c.args.left.items c.join_ports.new.left.items (vec_capacity c.args.left)
    (record { numbered = self.numbered; count = self.count; works = self.works; running = self.running; due = self.due })
    (record { credited = self.credited; accounted = self.accounted; few = self.few })
    refl self.lent.1 joins.4 c.requires.empty joins.3 (subst (λ client. length (mail_of client).outstanding ≤ vec_capacity c.args.left) (sym c.client.view_is) c.requires.room.0) in
    omega (arith, room, c.join_ports.ensures.room, c.join_ports.new.left.ok.0)

pub returns : goal.returns
returns g c =
    let self = c.client.inside in let joins = c.join_ports.ensures.joins in let rest = c.pop_rest.ensures.rest in
    let whole = lane g.W.Work.request g.W.Work.result_of (worker_view self.owner).put self.mailbox c.join_ports.new.mailbox c.args.column.now.items self.rings.items (worker_view self.owner) (worker_view c.join_ports.new.owner) joins.0 joins.1 c.args.left.items c.join_ports.new.left.items c.pop_rest.new.left.items rest.0
    (record { numbered = self.numbered; count = self.count; works = self.works; running = self.running; due = self.due })
    (record { credited = self.credited; accounted = self.accounted; few = self.few })
    refl self.lent.1 joins.4 joins.2 c.requires.empty joins.3 rest.1 rest.2 in
    rw (← c.client.view_is) (record {
      settled = record {
        waited = rest.0;
        answers = joins.0;
        put = c.pop_rest.ensures.put ∙ ap (λ b. b.put) joins.4.view;
        carried = whole.carried;
        apart = whole.apart;
        came = joins.4.beginnings;
        taken_in = joins.4.arrived;
        kept = whole.kept;
        left = whole.left_is;
        once = whole.once;
        unanswered = whole.unanswered;
        all_left = whole.all_left;
      };
      column = c.join_ports.ensures.ports;
    })

pub invariant_of-result : goal.invariant_of-result
invariant_of-result g c =
    let self = c.client.inside in let joins = c.join_ports.ensures.joins in let rest = c.pop_rest.ensures.rest in
    let whole = lane g.W.Work.request g.W.Work.result_of (worker_view self.owner).put self.mailbox c.join_ports.new.mailbox c.args.column.now.items self.rings.items (worker_view self.owner) (worker_view c.join_ports.new.owner) joins.0 joins.1 c.args.left.items c.join_ports.new.left.items c.pop_rest.new.left.items rest.0
    (record { numbered = self.numbered; count = self.count; works = self.works; running = self.running; due = self.due })
    (record { credited = self.credited; accounted = self.accounted; few = self.few })
    refl self.lent.1 joins.4 joins.2 c.requires.empty joins.3 rest.1 rest.2 in
    let put = c.pop_rest.ensures.put ∙ ap (λ b. b.put) joins.4.view in
    let fits = subst (λ p. Fits g.W.Work.request g.W.Work.result_of p c.join_ports.new.mailbox) (sym put) whole.fits in
    (fits.numbered, (fits.count, (fits.works, (fits.running, (fits.due, tt)))))
