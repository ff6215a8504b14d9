use Rattle.std.proofs.Common.{arith}
use Rattle.desk_serving.proofs.Putting.{clear_all, clear_next}
use Rattle.desk_serving.proofs.named_lanes.Lanes.nothing_waits.Goals as goal

pub loop-place-preserved : goal.loop-place-preserved
loop-place-preserved g c =
    let self = c.args.self.now in
    clear_next self.clients.items c.loop-place.place c.index.result.now (omega (arith, self.clients.ok.0)) c.index.ensures (c.has_waiting.ensures.clear c.if-has_waiting.false) c.loop-place.invariant

pub returns : goal.returns
returns g c = λ t.
    let self = c.args.self.now in clear_all self.clients.items c.loop-place.place (omega (arith, self.clients.ok.0)) c.loop-place.invariant
