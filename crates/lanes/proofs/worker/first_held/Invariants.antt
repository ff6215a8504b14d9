use Rattle.std.proofs.Common.{◌≡◌, ℕ, ◌<◌, [], get_or}
use Rattle.lanes.specs.Ports.{held_at}
use Rattle.lanes.proofs.worker.first_held.Given as goal

abbrev pub invariant-loop-lane : goal.invariant-loop-lane
invariant-loop-lane g l = (k : ℕ) (d : _) → k < l.lane → held_at (get_or l.fn.ports.items k d) ≡ []
