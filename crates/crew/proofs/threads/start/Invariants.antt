use Rattle.std.proofs.Common.{◌≡◌, ◌+◌, ◌++◌, ◌≤◌, map, vec_len}
use Rattle.std.specs.Prelude.{vec_capacity}
use Rattle.std.specs.Vec.Iter.{into_iter_items, into_iter_len}
use Rattle.lanes.specs.Workers.{worker_links}
use Rattle.crew.specs.Promised.{promised_links}
use Rattle.crew.proofs.threads.start.Given as goal

abbrev pub invariant-loop-worker : goal.invariant-loop-worker
invariant-loop-worker g l = record {
  room : vec_len l.handles + into_iter_len l.worker-iterator ≤ vec_capacity l.handles;
  count : vec_len l.handles + into_iter_len l.worker-iterator ≡ vec_len l.fn.workers;
  ends : promised_links l.handles.items ++ map worker_links (into_iter_items l.worker-iterator) ≡ map worker_links l.fn.workers.items;
}
