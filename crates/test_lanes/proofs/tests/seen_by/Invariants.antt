use Rattle.std.proofs.Common.{◌≡◌, map}
use Rattle.lanes.specs.Clients.{client_links}
use Rattle.lanes.specs.Workers.{worker_links}
use Rattle.test_lanes.proofs.tests.seen_by.Given as goal

abbrev pub invariant-loop-call : goal.invariant-loop-call
invariant-loop-call l = record {
  clients : map client_links l.clients.items ≡ map client_links l.fn.clients.items;
  workers : map worker_links l.workers.items ≡ map worker_links l.fn.workers.items;
}
