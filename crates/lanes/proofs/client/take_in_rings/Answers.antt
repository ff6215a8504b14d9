use Rattle.std.proofs.Common.{[], refl, arith, ◌<◌}
use Rattle.std.proofs.lemmas.List.Sorted.{IsPermutation-refl}
use Rattle.box_core.specs.Mail.{accepted_in}
use Rattle.lanes.specs.Joined.{received_of}
use Rattle.lanes.proofs.Crossing.{none}
use Rattle.lanes.proofs.Ringing.{ringing_none, ringing_step}
use Rattle.lanes.proofs.client.take_in_rings.Goals as goal

pub loop-index-init : goal.loop-index-init
loop-index-init g c = record {
  len = refl;
  ringing = ringing_none g.W.Work.request g.W.Work.result_of c.args.rings.now.items c.args.mailbox.now;
}

pub loop-index-preserved : goal.loop-index-preserved
loop-index-preserved g c =
    let inv = c.loop-index.invariant in let told = c.take_in_ring-there.ensures in
    record {
      len = inv.len;
      ringing = ringing_step g.W.Work.request g.W.Work.result_of c.args.rings.now.items c.loop-index.rings.items c.args.mailbox.now c.loop-index.mailbox c.take_in_ring-there.new.mailbox c.loop-index.index c.index_mut.result.now c.take_in_ring-there.new.ring told.taken.0
          inv.ringing (omega (arith, c.loop-index-test.true, c.len-index-end.ensures, inv.len, c.loop-index.rings.ok.0)) c.index_mut.ensures.value told.ring told.taken.1 told.taken.2 told.taken.3 told.count;
    }

pub returns : goal.returns
returns g c = let h = c.loop-index.invariant.ringing in record { rings = (c.loop-index.invariant.len, h.links); taken = (h.more, h.came, h.taken, h.below) }

pub returns-then-is_whole : goal.returns-then-is_whole
returns-then-is_whole g c = record {
  rings = (refl, refl);
  taken = ([], IsPermutation-refl (received_of c.args.rings.now.items), refl, none (λ x. x.ticket < accepted_in c.args.mailbox.now));
}
