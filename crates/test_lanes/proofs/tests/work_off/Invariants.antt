use Rattle.std.proofs.Common.{◌≡◌}
use Rattle.lanes.specs.Workers.{worker_links}
use Rattle.test_lanes.proofs.tests.work_off.Given as goal

abbrev pub invariant-loop : goal.invariant-loop
invariant-loop l = worker_links l.worker ≡ worker_links l.fn.worker
