use Rattle.std.proofs.Common.{◌≡◌, false, take}
use Rattle.desk_serving.specs.Waits.{some_closes}
use Rattle.desk_serving.proofs.client_lane.ClientLane.is_closed.Given as goal

abbrev pub invariant-loop-place : goal.invariant-loop-place
invariant-loop-place g l = some_closes (take l.place l.self.waits.items) ≡ false
