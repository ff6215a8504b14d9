use Rattle.std.proofs.Common.{◌≡◌}
use Rattle.lanes.specs.Workers.{worker_links}
use Rattle.crew.proofs.threads.work.Given as goal

abbrev pub invariant-loop : goal.invariant-loop
invariant-loop g l = worker_links l.worker ≡ worker_links l.fn.worker
