use Rattle.std.proofs.Common.{◌∙◌, ap, arith}
use Rattle.crew.proofs.Joining.{joined_step}
use Rattle.lanes.specs.Clients.{client_links}
use Rattle.desk_serving.specs.LanesView.{lane_held, links_held}
use Rattle.desk_serving.specs.Owed.{queue_of}
use Rattle.desk_serving.specs.Waits.{with_waits}
use Rattle.desk_serving.proofs.lane_ends.lanes_of.Goals as goal

pub loop-client-preserved : goal.loop-client-preserved
loop-client-preserved g c =
    let stays = c.loop-client.invariant in let pushed = c.push_reserved.ensures in let steps = c.in-Some.ensures.steps in let made = c.of.result in
    let first = ap (λ client. with_waits (queue_of client) made.waits.items) c.of.ensures.client ∙ ap (λ ws. with_waits (queue_of c.in-Some.client) ws) c.of.ensures.waits in
    record {
      room = omega (arith, stays.room, pushed.len, pushed.capacity, steps.1);
      lanes = joined_step lane_held queue_of _ _ made _ _ c.in-Some.client _ pushed.items steps.0 first stays.lanes;
      links = joined_step links_held client_links _ _ made _ _ c.in-Some.client _ pushed.items steps.0 (ap client_links c.of.ensures.client) stays.links;
    }

pub push_reserved-requires : goal.push_reserved-requires
push_reserved-requires g c = omega (arith, c.loop-client.invariant.room, c.in-Some.ensures.steps.1)
