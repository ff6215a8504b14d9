use Rattle.std.proofs.Common.{◌≡◌, ap, map, subst, sym}
use Rattle.lanes.specs.Books.{work_of}
use Rattle.std.specs.List.{remove}
use Rattle.desk_serving.specs.Owed.{HandsOwn, LosesFirst, Queue, ToLine, queue_of, with_told}
use Rattle.desk_serving.specs.Waits.{with_waits}
use Rattle.desk_serving.proofs.Laning.{IsBehind, behind_gone, behind_kept, lost_told, lost_waits, own_one, whole_owed}
use Rattle.desk_serving.proofs.client_lane.ClientLane.tell_first.Goals as goal

pub returns-clause-hands : goal.returns-clause-hands
returns-clause-hands g c =
    let self = c.args.self.now in let old = queue_of self.client in let new = queue_of c.take_effect.new.client in let rest = remove self.waits.items 0 in
    let k = c.args.number in let what = c.args.told in
    let lost = lost_told k what old new (whole_owed self.client (c.is_whole.ensures.0 c.if-not-is_whole.false)) c.in_ok-take_effect.ensures.shut in
    subst (λ (l : Queue). HandsOwn c.args.name.now l (with_waits new c.remove-gone.new.self.items) c.args.text.now.items c.add_to.new.text.items) (sym (c.requires.first old))
    (subst (λ ws. HandsOwn c.args.name.now (with_waits (with_told k what old) rest) (with_waits new ws) c.args.text.now.items c.add_to.new.text.items) (sym c.remove-gone.ensures.items)
    (own_one c.args.name.now (ToLine k what) (with_waits (with_told k what old) rest) (with_waits new rest) c.args.text.now.items c.add_to.new.text.items
    (lost_waits (ToLine k what) (with_told k what old) new rest lost) c.in_ok-add_to.ensures))

pub invariant_of-self : goal.invariant_of-self
invariant_of-self g c =
    let self = c.args.self.now in record { behind = behind_kept (queue_of self.client) (queue_of c.take_effect.new.client) self.waits.items (ap (map work_of) c.take_effect.ensures.put) self.behind }

pub invariant_of-self-2 : goal.invariant_of-self-2
invariant_of-self-2 g c =
    let self = c.args.self.now in let old = queue_of self.client in let new = queue_of c.take_effect.new.client in record {
      behind = subst (λ ws. IsBehind new ws) (sym c.remove-gone.ensures.items)
          (behind_gone old new (with_told c.args.number c.args.told old) self.waits.items c.requires.some (c.requires.first old) (ap (map work_of) c.take_effect.ensures.put) self.behind);
    }
