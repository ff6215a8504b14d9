use Rattle.std.proofs.Common.{◌≡◌, map}
use Rattle.lanes.specs.Clients.{client_links}
use Rattle.test_crew.proofs.tests.Asking.ask.Given as goal

abbrev pub invariant-loop-number : goal.invariant-loop-number
invariant-loop-number g l = map client_links l.self.clients.items ≡ map client_links l.fn.self.clients.items

abbrev pub invariant-loop-client : goal.invariant-loop-client
invariant-loop-client g l = map client_links l.self.clients.items ≡ map client_links l.fn.self.clients.items

abbrev pub invariant-loop : goal.invariant-loop
invariant-loop g l = map client_links l.self.clients.items ≡ map client_links l.fn.self.clients.items

abbrev pub invariant-loop-client-2 : goal.invariant-loop-client-2
invariant-loop-client-2 g l = map client_links l.self.clients.items ≡ map client_links l.fn.self.clients.items
