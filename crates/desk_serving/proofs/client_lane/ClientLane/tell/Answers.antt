use Rattle.std.proofs.Common.{◌≡◌, ◌∙◌, [], ap, false, is_ok, map, subst, sym, true}
use Rattle.lanes.specs.Books.{work_of}
use Rattle.desk_serving.specs.Owed.{HandsOwn, ToLine, queue_of, with_told}
use Rattle.desk_serving.specs.Waits.{with_waits}
use Rattle.desk_serving.specs.declared.client_lane.Waiting.TheVariants as waiting
use Rattle.desk_serving.proofs.Laning.{behind_either, behind_kept, behind_told, lost_told, own_none, own_one, waits_more}
use Rattle.desk_serving.proofs.client_lane.ClientLane.tell.Goals as goal

pub returns-then-is_whole-clause-hands : goal.returns-then-is_whole-clause-hands
returns-then-is_whole-clause-hands g c =
    let self = c.args.self.now in let waits = self.waits.items in let old = queue_of self.client in let new = queue_of c.take_effect.new.client in
    let k = c.args.number in let what = c.args.told in let n = c.args.name.now in let s = c.args.text.now.items in let t = c.add_to.new.text.items in
    let clear = c.is_whole.ensures.clear c.if-is_whole.true in
    let none : old.owed ≡ [] = subst (λ ws. (with_waits old ws).owed ≡ []) clear (c.is_whole.ensures.whole c.if-is_whole.true) in
    subst (λ ws. HandsOwn n (with_told k what (with_waits old ws)) (with_waits new ws) s t) (sym clear)
    (own_one n (ToLine k what) (with_told k what old) new s t (lost_told k what old new none c.in_ok-take_effect.ensures.shut) c.in_ok-add_to.ensures)

pub returns-clause-hands : goal.returns-clause-hands
returns-clause-hands g c =
    let self = c.args.self.now in let lane = queue_of self.client in
    own_none c.args.name.now (with_told c.args.number c.args.told (with_waits lane self.waits.items)) (with_waits lane c.push.new.self.items) c.args.text.now.items
    (ap (with_waits lane) c.in_ok-push.ensures.items ∙ waits_more lane self.waits.items (waiting.Told c.args.number c.args.told c.args.bytes))

pub invariant_of-self : goal.invariant_of-self
invariant_of-self g c =
    let self = c.args.self.now in
    record { behind = behind_kept (queue_of self.client) (queue_of c.take_effect.new.client) self.waits.items (ap (map work_of) c.take_effect.ensures.put) self.behind }

pub invariant_of-self-2 : goal.invariant_of-self-2
invariant_of-self-2 g c =
    let self = c.args.self.now in let lane = queue_of self.client in
    let some : (with_waits lane self.waits.items).put ≡ [] → ⊥ = λ none. let wrong : true ≡ false = sym (c.is_whole.ensures.idle none) ∙ c.if-is_whole.false in cc in
    record { behind = behind_either lane self.waits.items c.push.new.self.items _ (is_ok c.push.result) c.push.ensures.items self.behind (behind_told lane self.waits.items c.args.number c.args.told c.args.bytes some) }
