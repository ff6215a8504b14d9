use Rattle.std.proofs.Common.{◌≡◌, ◌+◌, ◌≤◌, [], map, vec_len, vec_capacity}
use Rattle.lanes.specs.Clients.{client_links}
use Rattle.lanes.specs.Links.{AreOfOneCall}
use Rattle.lanes.specs.Rooms.{AllHaveRoom}
use Rattle.lanes.specs.Workers.{ports_of, worker_links}
use Rattle.lanes.proofs.Columns.{Settling}
use Rattle.lanes.proofs.settling.settle_all.Given as goal

abbrev pub invariant-loop-client : goal.invariant-loop-client
invariant-loop-client g l = record {
  one_call : AreOfOneCall (map client_links l.clients.items) (map worker_links l.workers.items);
  column : (l.column.items ≡ []) × (vec_capacity l.column ≡ vec_len l.workers);
  workers : vec_len l.workers ≡ vec_len l.fn.workers;
  rooms : AllHaveRoom (vec_len l.fn.workers) l.clients.items l.lefts.items;
  room : vec_len l.ends + vec_len l.clients ≤ vec_capacity l.ends;
  settling : Settling g.W.Work.request g.W.Work.result_of (map ports_of l.fn.workers.items) (map ports_of l.workers.items) l.fn.clients.items l.clients.items l.ends.items;
}

abbrev pub decreases-loop-client : goal.decreases-loop-client
decreases-loop-client g l = vec_len l.clients
