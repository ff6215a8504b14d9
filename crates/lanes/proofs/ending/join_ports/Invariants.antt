use Rattle.std.proofs.Common.{◌≡◌, ◌+◌, ◌≤◌, vec_len, vec_capacity}
use Rattle.crossbeam_deque.specs.Handles.{worker_view, worker_deque, SameWorker}
use Rattle.lanes.proofs.Joining.{Joining}
use Rattle.lanes.proofs.ending.join_ports.Given as goal

abbrev pub invariant-loop-port : goal.invariant-loop-port
invariant-loop-port g l = record {
  same : SameWorker l.fn.owner l.owner;
  joining : Joining g.W.Work.request g.W.Work.result_of (worker_deque l.fn.owner) l.fn.ports.items l.ports.items l.fn.rings.items l.rings.items (worker_view l.fn.owner) (worker_view l.owner) l.fn.mailbox l.mailbox l.fn.left.items l.left.items;
  capacity : (vec_capacity l.left ≡ vec_capacity l.fn.left) × (vec_capacity l.ports ≡ vec_capacity l.fn.ports);
  room : vec_len l.left + vec_len l.ports ≤ vec_capacity l.left;
}

abbrev pub decreases-loop-port : goal.decreases-loop-port
decreases-loop-port g l = vec_len l.ports
