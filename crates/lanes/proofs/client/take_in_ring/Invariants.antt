use Rattle.std.proofs.Common.{◌≡◌, ◌<◌, All, List, ◌++◌, length}
use Rattle.box_core.specs.Answer.{Ticketed}
use Rattle.box_core.specs.Mail.{accepted_in}
use Rattle.rtrb.specs.Ring.{received, known_items, SameConsumer}
use Rattle.lanes.specs.Polls.{TakenIn}
use Rattle.lanes.proofs.client.take_in_ring.Given as goal

abbrev pub invariant-loop-ring : goal.invariant-loop-ring
invariant-loop-ring g l = record {
  ring : SameConsumer l.fn.ring l.ring;
  taken : (more : List (Ticketed g.row.W.Denot)) × (received l.ring ≡ received l.fn.ring ++ more) × TakenIn g.W.Work.request g.W.Work.result_of l.fn.mailbox more l.mailbox × All (λ x. x.ticket < accepted_in l.fn.mailbox) more;
  count : accepted_in l.mailbox ≡ accepted_in l.fn.mailbox;
}

abbrev pub decreases-loop-ring : goal.decreases-loop-ring
decreases-loop-ring g l = length (known_items l.ring)
