use Rattle.std.proofs.Common.{◌≡◌, ◌∙◌, ap, subst, sym}
use Rattle.std.specs.Arc.{arc_value}
use Rattle.std.specs.List.{remove}
use Rattle.desk_serving.specs.Owed.{Queue, queue_of, with_put}
use Rattle.desk_serving.specs.Waits.{with_waits}
use Rattle.desk_serving.proofs.Laning.{IsBehind, behind_gone, put_lane}
use Rattle.desk_serving.proofs.client_lane.ClientLane.enter.Goals as goal

pub invariant_of-self : goal.invariant_of-self
invariant_of-self g c =
    let self = c.args.self.now in let old = queue_of self.client in let new = queue_of c.submit.new.self in let q = arc_value c.args.work in
    let put : new ≡ with_put old q = put_lane self.client c.submit.new.self _ q c.in-Ok.ensures.put.1 c.in-Ok.ensures.accepted in record {
      behind = subst (λ ws. IsBehind new ws) (sym c.remove-gone.ensures.items)
          (behind_gone old new (with_put old q) self.waits.items c.requires.some (c.requires.first old) (ap (λ (l : Queue). l.put) put) self.behind);
    }

pub returns-in-Ok-clause-lane : goal.returns-in-Ok-clause-lane
returns-in-Ok-clause-lane g c =
    let self = c.args.self.now in let old = queue_of self.client in let new = queue_of c.submit.new.self in let q = arc_value c.args.work in
    let put : new ≡ with_put old q = put_lane self.client c.submit.new.self _ q c.in-Ok.ensures.put.1 c.in-Ok.ensures.accepted in
    ap (λ ws. with_waits new ws) c.remove-gone.ensures.items ∙ ap (λ (l : Queue). with_waits l (remove self.waits.items 0)) put ∙ sym (c.requires.first old)
