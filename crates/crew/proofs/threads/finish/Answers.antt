use Rattle.std.proofs.Common.{arith}
use Rattle.crew.proofs.Joining.{joined_step}
use Rattle.crew.proofs.threads.finish.Goals as goal

pub loop-handle-preserved : goal.loop-handle-preserved
loop-handle-preserved g c =
    let stays = c.loop-handle.invariant in
    let pushed = c.push_reserved.ensures in
    let steps = c.in-Some.ensures.steps in
    record {
      room = omega (arith, stays.room, pushed.len, pushed.capacity, steps.1);
      ends = joined_step _ _ _ _ c.join.result _ _ c.in-Some.handle _ pushed.items steps.0 c.join.ensures stays.ends;
    }

pub push_reserved-requires : goal.push_reserved-requires
push_reserved-requires g c = omega (arith, c.loop-handle.invariant.room, c.in-Some.ensures.steps.1)
