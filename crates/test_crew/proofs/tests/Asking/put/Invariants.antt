use Rattle.std.proofs.Common.{◌≡◌, map}
use Rattle.lanes.specs.Clients.{client_links}
use Rattle.test_crew.proofs.tests.Asking.put.Given as goal

abbrev pub invariant-loop : goal.invariant-loop
invariant-loop g l = map client_links l.self.clients.items ≡ map client_links l.fn.self.clients.items
