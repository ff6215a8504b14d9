use Rattle.std.proofs.Common.{◌≡◌, length}
use Rattle.lanes.specs.Rest.{left_in}
use Rattle.desk_serving.specs.Ending.{IsReady}
use Rattle.desk_serving.specs.Owed.{queue_in}
use Rattle.desk_serving.proofs.ending.run_left.Given as goal

abbrev pub invariant-loop-job : goal.invariant-loop-job
invariant-loop-job g l = record {
  ready : IsReady l.end;
  lane : queue_in l.end ≡ queue_in l.initial.end;
}

abbrev pub decreases-loop-job : goal.decreases-loop-job
decreases-loop-job g l = length (left_in l.end)
