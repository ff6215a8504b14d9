use Rattle.std.proofs.Common.{arith}
use Rattle.lanes.proofs.Serving.{served_held}
use Rattle.lanes.proofs.Watching.{watched_held}
use Rattle.lanes.proofs.worker.finish_held.Goals as goal

pub returns : goal.returns
returns g c =
    let finished = c.finish.ensures in
    record {
      steps = served_held c.args.ports.now.items c.args.lane c.index_mut-port.result.now c.finish.new.self c.finish.result (let n = c.requires.lane in omega (arith, n, c.args.ports.now.ok.0)) c.index_mut-port.ensures.value c.requires.held c.requires.one
          finished.same.0 finished.same.1 finished.finishes;
      seen = watched_held g.V.Watch.entered g.V.Watch.left c.args.ports.now.items c.args.lane c.index_mut-port.result.now c.finish.new.self c.finish.result c.args.watch.now c.finish.new.watch (let n = c.requires.lane in omega (arith, n, c.args.ports.now.ok.0)) c.index_mut-port.ensures.value c.requires.held c.requires.one
          finished.same.1 finished.finishes finished.seen;
    }
