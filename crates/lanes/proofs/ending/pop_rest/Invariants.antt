use Rattle.std.proofs.Common.{◌≡◌, ◌+◌, ◌-◌, ◌≤◌, List, ◌++◌, length, vec_len, vec_capacity}
use Rattle.crossbeam_deque.specs.Handles.{worker_view, SameWorker}
use Rattle.box_core.specs.Answer.{Ticketed}
use Rattle.lanes.specs.Books.{book}
use Rattle.lanes.proofs.ending.pop_rest.Given as goal

abbrev pub invariant-loop-job : goal.invariant-loop-job
invariant-loop-job g l = record {
  same : SameWorker l.fn.owner l.owner;
  popped : (waiting : List (Ticketed g.row.W.Denot)) × (l.left.items ≡ l.fn.left.items ++ waiting)
      × (worker_view l.owner ≡ book (worker_view l.fn.owner).live 0 (worker_view l.fn.owner).put ((worker_view l.fn.owner).taken ++ waiting));
  room : vec_len l.left + length (worker_view l.owner).put ≤ vec_capacity l.left + length (worker_view l.owner).taken;
}

abbrev pub decreases-loop-job : goal.decreases-loop-job
decreases-loop-job g l = length (worker_view l.owner).put - length (worker_view l.owner).taken
