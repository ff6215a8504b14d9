use Rattle.std.proofs.Common.{◌≡◌, vec_len}
use Rattle.lanes.proofs.Ringing.{Ringing}
use Rattle.lanes.proofs.client.take_in_rings.Given as goal

abbrev pub invariant-loop-index : goal.invariant-loop-index
invariant-loop-index g l = record {
  len : vec_len l.rings ≡ vec_len l.fn.rings;
  ringing : Ringing g.W.Work.request g.W.Work.result_of l.fn.rings.items l.rings.items l.fn.mailbox l.mailbox;
}
