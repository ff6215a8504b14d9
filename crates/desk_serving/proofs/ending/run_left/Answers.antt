use Rattle.std.proofs.Common.{◌∷◌, ◌++◌, [], sym, ap, ◌∙◌}
use Rattle.lanes.specs.Rest.{left_in}
use Rattle.desk_serving.proofs.EndingLanes.{ready_answered, answered_lane, same_lane}
use Rattle.desk_serving.proofs.ending.run_left.Goals as goal

pub loop-job-preserved : goal.loop-job-preserved
loop-job-preserved g c =
    let old = c.loop-job.end in let mid = c.next_left.new.self in let new = c.answer.new.self in
    record {
      ready = ready_answered old mid new c.in-Ok.done c.answer.result c.loop-job.invariant.ready
          (c.in-Some.ensures.job ∙ ap (λ j. left_in mid ++ j ∷ []) (sym c.in-Ok.ensures.done)) c.in-Some.ensures.rest.1 c.answer.ensures.rest.1
          c.answer.ensures.answered c.answer.ensures.kept c.answer.ensures.dropped;
      lane = answered_lane mid new _ c.in-Ok.done c.answer.result c.answer.ensures.rest.0 c.answer.ensures.kept c.answer.ensures.dropped
          ∙ same_lane old mid c.in-Some.ensures.rest.0 c.in-Some.ensures.rest.1 ∙ c.loop-job.invariant.lane;
    }
