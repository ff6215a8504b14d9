use Rattle.std.proofs.Common.{◌≡◌, map}
use Rattle.lanes.specs.Clients.{client_links}
use Rattle.test_crew.proofs.tests.late_in.Given as goal

abbrev pub invariant-loop-client : goal.invariant-loop-client
invariant-loop-client l = map client_links l.clients.items ≡ map client_links l.fn.clients.items
