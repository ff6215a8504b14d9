use Rattle.std.proofs.Common.{◌≡◌, ◌<◌, ◌^◌, ◌∙◌, false, ap, length, subst}
use Rattle.std.proofs.lemmas.Result.{on_ok_weaker}
use Rattle.std.specs.Arc.{arc_value}
use Rattle.desk_serving.specs.Owed.{Queue, queue_of, with_put}
use Rattle.desk_serving.specs.Waits.{with_waits}
use Rattle.desk_serving.proofs.Laning.{waits_put}
use Rattle.desk_serving.proofs.client_lane.ClientLane.put_first.Goals as goal

pub submit-requires : goal.submit-requires
submit-requires g c =
    let self = c.args.self.now in record {
      few = subst (λ ws. length (with_waits (queue_of self.client) ws).put < 2 ^ 60) c.requires.clear c.requires.few;
      «open» = subst (λ ws. (with_waits (queue_of self.client) ws).closed ≡ false) c.requires.clear c.requires.«open»;
    }

pub returns-in-Accepted-clause-put : goal.returns-in-Accepted-clause-put
returns-in-Accepted-clause-put g c =
    let self = c.args.self.now in let told = rw c.in-Accepted.is at c.in_ok-submit.ensures.submits in
    waits_put (queue_of self.client) (queue_of c.submit.new.client) self.waits.items (arc_value c.args.work) c.requires.clear told

pub returns-in-Full-clause-put : goal.returns-in-Full-clause-put
returns-in-Full-clause-put g c =
    let self = c.args.self.now in let told = rw c.in-Full.is at c.in_ok-submit.ensures.submits in
    on_ok_weaker c.wait.result
    (λ put. put ∙ ap (λ q. with_put (with_waits (queue_of c.submit.new.client) self.waits.items) q) told.0 ∙ ap (λ (l : Queue). with_put (with_waits l self.waits.items) (arc_value c.args.work)) told.1)
    c.wait.ensures.put
