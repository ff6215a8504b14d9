use Rattle.std.proofs.Common.{take}
use Rattle.desk_serving.specs.LanesView.{AreClear}
use Rattle.desk_serving.proofs.named_lanes.Lanes.nothing_waits.Given as goal

abbrev pub invariant-loop-place : goal.invariant-loop-place
invariant-loop-place g l = AreClear (take l.place l.self.clients.items)
