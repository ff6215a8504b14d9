use Rattle.std.proofs.Common.{◌≡◌, length, vec_len, refl, sym, ap, ◌∙◌, arith}
use Rattle.lanes.proofs.Columns.{settling_none, settling_step, last_lane, have_ports, room_last, room_length}
use Rattle.lanes.proofs.settling.settle_all.Goals as goal

pub loop-client-init : goal.loop-client-init
loop-client-init g c =
    let none : length c.args.room.ends.items ≡ 0 = ap length c.requires.room.0 in
    record {
      one_call = c.requires.ends;
      column = c.requires.column;
      workers = refl;
      rooms = c.requires.lefts;
      room = omega (arith, none, c.requires.room.1, c.args.room.ends.ok.0);
      settling = settling_none g.W.Work.request g.W.Work.result_of _ _ _ c.requires.room.0;
    }

pub unreachable-requires : goal.unreachable-requires
unreachable-requires g c =
    let n = room_length (vec_len c.args.workers) c.loop-client.clients.items c.loop-client.lefts.items c.loop-client.invariant.rooms in
    omega (arith, n, c.in_default-pop.ensures.cases.0, c.in-Some.ensures.cases, c.loop-client.clients.ok.0, c.loop-client.lefts.ok.0)

pub take_column-requires-clause-ports : goal.take_column-requires-clause-ports
take_column-requires-clause-ports g c = have_ports c.loop-client.clients.items c.loop-client.workers.items c.loop-client.invariant.one_call (omega (arith, c.in-Some.ensures.cases, c.loop-client.clients.ok.0))

pub settle_lane-requires-clause-links : goal.settle_lane-requires-clause-links
settle_lane-requires-clause-links g c = (last_lane g.W.Work.request g.W.Work.result_of c.loop-client.clients.items c.pop.new.self.items c.in-Some.client c.loop-client.workers.items c.take_column.new.workers.items c.take_column.new.column.items c.loop-client.invariant.one_call c.in-Some.ensures.items c.take_column.ensures.taken
    (omega (arith, c.take_column.ensures.column, c.take_column.ensures.workers, c.take_column.new.column.ok.0, c.take_column.new.workers.ok.0))).links

pub settle_lane-requires-clause-empty : goal.settle_lane-requires-clause-empty
settle_lane-requires-clause-empty g c = (room_last (vec_len c.args.workers) c.loop-client.clients.items c.pop.new.self.items c.loop-client.lefts.items c.pop-in-Some.new.self.items c.in-Some.client c.in-Some-pop.left c.loop-client.invariant.rooms c.in-Some.ensures.items c.in-Some-pop.ensures.items).1.0

pub settle_lane-requires-clause-room : goal.settle_lane-requires-clause-room
settle_lane-requires-clause-room g c =
    let room = (room_last (vec_len c.args.workers) c.loop-client.clients.items c.pop.new.self.items c.loop-client.lefts.items c.pop-in-Some.new.self.items c.in-Some.client c.in-Some-pop.left c.loop-client.invariant.rooms c.in-Some.ensures.items c.in-Some-pop.ensures.items).1 in
    (room.1, (let r = room.2 in omega (arith, r, c.take_column.ensures.column, c.loop-client.invariant.workers)))

pub loop-client-preserved : goal.loop-client-preserved
loop-client-preserved g c =
    let inv = c.loop-client.invariant in
    let last = last_lane g.W.Work.request g.W.Work.result_of c.loop-client.clients.items c.pop.new.self.items c.in-Some.client c.loop-client.workers.items c.take_column.new.workers.items c.take_column.new.column.items c.loop-client.invariant.one_call c.in-Some.ensures.items c.take_column.ensures.taken
    (omega (arith, c.take_column.ensures.column, c.take_column.ensures.workers, c.take_column.new.column.ok.0, c.take_column.new.workers.ok.0)) in
    let room = room_last (vec_len c.args.workers) c.loop-client.clients.items c.pop.new.self.items c.loop-client.lefts.items c.pop-in-Some.new.self.items c.in-Some.client c.in-Some-pop.left c.loop-client.invariant.rooms c.in-Some.ensures.items c.in-Some-pop.ensures.items in
    record {
      one_call = last.one_call;
      column = (c.settle_lane.ensures.column.0, c.settle_lane.ensures.column.1 ∙ c.take_column.ensures.room ∙ inv.column.1 ∙ sym c.take_column.ensures.workers);
      workers = c.take_column.ensures.workers ∙ inv.workers;
      rooms = room.0;
      room = (let r = inv.room in let n = c.push_reserved.ensures.len in let k = c.push_reserved.ensures.capacity in let l = c.in-Some.ensures.cases in omega (arith, r, n, k, l));
      settling = settling_step g.W.Work.request g.W.Work.result_of _ _ c.loop-client.clients.items c.pop.new.self.items c.in-Some.client c.loop-client.workers.items c.take_column.new.workers.items c.take_column.new.column.items c.loop-client.ends.items c.push_reserved.new.self.items c.settle_lane.result
          inv.settling c.in-Some.ensures.items c.take_column.ensures.taken (omega (arith, c.take_column.ensures.column, c.take_column.ensures.workers, c.take_column.new.column.ok.0, c.take_column.new.workers.ok.0)) last c.settle_lane.ensures.settled c.push_reserved.ensures.items;
    }
