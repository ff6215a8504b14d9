use Rattle.std.proofs.Common.{arith}
use Rattle.lanes.proofs.Serving.{none_held}
use Rattle.lanes.proofs.worker.first_held.Goals as goal

pub loop-lane-preserved : goal.loop-lane-preserved
loop-lane-preserved g c = none_held c.args.ports.now.items c.loop-lane.lane c.index-port.result.now c.loop-lane.invariant (omega (arith, c.loop-lane-test.true, c.len-lane-end.ensures, c.args.ports.now.ok.0)) c.index-port.ensures (rw (← c.port.view_is) c.in-Nothing.is)
