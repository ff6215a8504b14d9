use Rattle.std.proofs.Common.{◌≡◌, ◌+◌, ◌++◌, ◌≤◌, map, vec_len}
use Rattle.std.specs.Prelude.{vec_capacity}
use Rattle.std.specs.Vec.Iter.{into_iter_items, into_iter_len}
use Rattle.lanes.specs.Workers.{worker_links}
use Rattle.crew.specs.Promised.{promised_links}
use Rattle.crew.proofs.threads.finish.Given as goal

abbrev pub invariant-loop-handle : goal.invariant-loop-handle
invariant-loop-handle g l = record {
  room : vec_len l.joined + into_iter_len l.handle-iterator ≤ vec_capacity l.joined;
  ends : map worker_links l.joined.items ++ promised_links (into_iter_items l.handle-iterator) ≡ map worker_links l.fn.joined.items ++ promised_links l.fn.handles.items;
}
