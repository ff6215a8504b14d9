use Rattle.std.proofs.Common.{ap, arith, ◌≡◌, ◌∙◌}
use Rattle.lanes.specs.Workers.{worker_links}
use Rattle.crew.specs.declared.promise.SameEnd.{SameEnd}
use Rattle.crew.proofs.Joining.{joined_step}
use Rattle.crew.proofs.threads.start.Goals as goal

pub loop-worker-preserved : goal.loop-worker-preserved
loop-worker-preserved g c =
    let stays = c.loop-worker.invariant in
    let pushed = c.push_reserved.ensures in
    let steps = c.in-Some.ensures.steps in
    let same : worker_links c.in-Ok.handle.promise.0.value ≡ worker_links c.in-Some.worker = ap (λ (p : SameEnd _ _). worker_links p.0.value) c.in-Ok.ensures.ok ∙ ap worker_links c.of.ensures in
    record {
      room = omega (arith, stays.room, pushed.len, pushed.capacity, steps.1);
      count = omega (arith, stays.count, pushed.len, steps.1);
      ends = joined_step _ _ _ _ c.in-Ok.handle _ _ c.in-Some.worker _ pushed.items steps.0 same stays.ends;
    }

pub push_reserved-requires : goal.push_reserved-requires
push_reserved-requires g c = omega (arith, c.loop-worker.invariant.room, c.in-Some.ensures.steps.1)
