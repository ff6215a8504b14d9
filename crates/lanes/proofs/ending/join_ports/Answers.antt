use Rattle.std.proofs.Common.{refl, sym, ap, ◌∙◌, arith, rules}
use Rattle.lanes.specs.Identities.{link, ring_of}
use Rattle.lanes.proofs.Joining.{joining_none, joining_step, last_link, is_pair, joined_all, no_items}
use Rattle.lanes.proofs.ending.join_ports.Goals as goal

pub loop-port-init : goal.loop-port-init
loop-port-init g c = record {
  same = (refl, refl, refl, omega arith);
  joining = joining_none g.W.Work.request g.W.Work.result_of _ _ _ _ _ _ c.requires.links;
  capacity = (refl, refl);
  room = c.requires.room;
}

pub join_port-sender-requires : goal.join_port-sender-requires
join_port-sender-requires g c =
    let same = c.loop-port.invariant.same in
    let is = (last_link g.W.Work.request g.W.Work.result_of _ _ _ _ _ c.in-Some.port c.in-Some-pop.ring c.loop-port.invariant.joining.links c.in-Some.ensures.items c.in-Some-pop.ensures.items).1 in
    record { lane = ((ring_of c.in-Some-pop.ring, is ∙ ap (λ deque. link deque (ring_of c.in-Some-pop.ring)) (sym same.0)), same.2 ∙ c.requires.owner) }

pub drain-requires : goal.drain-requires
drain-requires g c =
    let is = (last_link g.W.Work.request g.W.Work.result_of _ _ _ _ _ c.in-Some.port c.in-Some-pop.ring c.loop-port.invariant.joining.links c.in-Some.ensures.items c.in-Some-pop.ensures.items).1 in
    is_pair g.W.Work.request g.W.Work.result_of _ _ c.in-Some.port c.join_port-sender.result.0 c.in-Some-pop.ring c.join_port-sender.ensures.rest.0 is

pub loop-port-preserved : goal.loop-port-preserved
loop-port-preserved g c =
    let inv = c.loop-port.invariant in let joined = c.join_port-sender.ensures in let drained = c.drain.ensures in let held = c.settle_held.ensures in
    record {
      same = search rules;
      joining = joining_step g.W.Work.request g.W.Work.result_of _ _ _ _ _ _ _ _ _ _ _ _ _ _ _ _ _ _ _ c.join_port-sender.result.0 _ drained.0 inv.joining c.in-Some.ensures.items c.in-Some-pop.ensures.items joined.joined joined.rest.1 joined.rest.2 drained.1 drained.2 held.answers held.jobs;
      capacity = search rules;
      room = (let a = inv.room in let b = held.len in let e = c.in-Some.ensures.len in let f = held.room in omega arith);
    }

pub returns : goal.returns
returns g c =
    let inv = c.loop-port.invariant in let popped = c.in_default.ensures in
    record {
      same = inv.same;
      joins = joined_all g.W.Work.request g.W.Work.result_of _ _ _ _ _ _ _ _ _ _ _ (no_items c.loop-port.ports.items (omega (arith, popped.cases.0, c.loop-port.ports.ok.0))) inv.joining;
      room = inv.capacity.0;
      ports = (no_items c.pop.new.self.items (omega (arith, popped.cases.1, c.pop.new.self.ok.0)), popped.capacity ∙ inv.capacity.1);
    }
