use Rattle.std.proofs.Common.{◌≡◌, List, ◌++◌, length}
use Rattle.rtrb.specs.Ring.{sent, received, known_items}
use Rattle.box_core.specs.Answer.{Ticketed}
use Rattle.lanes.specs.Polls.{TakenIn}
use Rattle.lanes.proofs.ending.drain.Given as goal

abbrev pub invariant-loop-mailbox : goal.invariant-loop-mailbox
invariant-loop-mailbox g l = record {
  fifo : received l.ring ++ known_items l.ring ≡ sent l.fn.sender;
  taken : (more : List (Ticketed g.row.W.Denot)) × (received l.ring ≡ received l.fn.ring ++ more) × TakenIn g.W.Work.request g.W.Work.result_of l.fn.mailbox more l.mailbox;
}

abbrev pub decreases-loop-mailbox : goal.decreases-loop-mailbox
decreases-loop-mailbox g l = length (known_items l.ring)
