use Rattle.std.proofs.lemmas.Result.{err_from_is_err_and}
use Rattle.std.proofs.Common.{◌+◌, take, length, sym, subst, arith, rules, ap}
use Rattle.std.proofs.lemmas.List.{take_all}
use Rattle.lanes.specs.Rooms.{AllHaveRoom}
use Rattle.lanes.proofs.Columns.{room_next}
use Rattle.lanes.proofs.settling.Room.of.Goals as goal

pub loop-client-preserved : goal.loop-client-preserved
loop-client-preserved g c =
    let inv = c.loop-client.invariant in
    record {
      lefts = subst (λ l. AllHaveRoom c.args.workers (take (c.loop-client.client-index + 1) c.args.clients.now.items) l) (sym c.push_reserved.ensures.items)
          (room_next c.args.workers c.args.clients.now.items c.loop-client.client-index c.loop-client.lefts.items c.client-item.result c.in_ok-room_for.field-0 (search rules) (search rules) inv.lefts c.in_ok-room_for.ensures);
      len = search rules;
      capacity = search rules;
    }

pub returns-in_err-column : goal.returns-in_err-column
returns-in_err-column g c =
    let e = (err_from_is_err_and c.from_residual.result c.from_residual.ensures.1).1 in
    record {
      column = rw e tt;
      lefts = rw e tt;
      ends = rw e tt;
    }

pub returns-in_err-ends : goal.returns-in_err-ends
returns-in_err-ends g c =
    let e = (err_from_is_err_and c.from_residual-in_err-ends.result c.from_residual-in_err-ends.ensures.1).1 in
    record {
      column = rw e tt;
      lefts = rw e tt;
      ends = rw e tt;
    }

pub returns-in_err-lefts : goal.returns-in_err-lefts
returns-in_err-lefts g c =
    let e = (err_from_is_err_and c.from_residual-in_err-lefts.result c.from_residual-in_err-lefts.ensures.1).1 in
    record {
      column = rw e tt;
      lefts = rw e tt;
      ends = rw e tt;
    }

pub returns-in_err-room_for : goal.returns-in_err-room_for
returns-in_err-room_for g c =
    let e = (err_from_is_err_and c.from_residual-in_err-room_for.result c.from_residual-in_err-room_for.ensures.1).1 in
    record {
      column = rw e tt;
      lefts = rw e tt;
      ends = rw e tt;
    }

pub push_reserved-requires : goal.push_reserved-requires
push_reserved-requires g c =
    let inv = c.loop-client.invariant in
    omega (arith, inv.len, inv.capacity, c.loop-client-test.true, c.args.clients.now.ok.0, ap length c.deref-client-items.ensures.value)

pub returns-clause-lefts : goal.returns-clause-lefts
returns-clause-lefts g c =
    let clients = c.args.clients.now.items in
    subst (λ l. AllHaveRoom c.args.workers l c.loop-client.lefts.items)
    (take_all c.loop-client.client-index clients (omega (arith, c.loop-client-test.false, ap length c.deref-client-items.ensures.value))) c.loop-client.invariant.lefts
