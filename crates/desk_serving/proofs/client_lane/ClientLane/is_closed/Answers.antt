use Rattle.std.proofs.Common.{◌≡◌, ◌<◌, ◌∙◌, ◌||◌, Bool, ap, arith, length, sym}
use Rattle.desk_requests.proofs.Names.{get_at}
use Rattle.desk_serving.specs.Owed.{queue_of}
use Rattle.desk_serving.proofs.Laning.{closed_waits, closes_all, closes_at, closes_next}
use Rattle.desk_serving.proofs.client_lane.ClientLane.is_closed.Goals as goal

pub loop-place-preserved : goal.loop-place-preserved
loop-place-preserved g c =
    let waits = c.args.self.now.waits in
    closes_next waits.items c.loop-place.place c.index.result.now (omega (arith, waits.ok.0)) c.index.ensures (sym c.closes.ensures ∙ c.if-closes.false) c.loop-place.invariant

pub returns-then-closes : goal.returns-then-closes
returns-then-closes g c =
    let self = c.args.self.now in let waits = self.waits in let closed = (queue_of self.client).closed in
    let inside : c.loop-place.place < length waits.items = omega (arith, waits.ok.0) in
    sym (closed_waits (queue_of self.client) waits.items
    ∙ ap (λ (b : Bool). b || closed) (closes_at waits.items c.loop-place.place c.index.result.now (get_at waits.items c.loop-place.place c.index.result.now inside c.index.ensures) (sym c.closes.ensures ∙ c.if-closes.true)))

pub returns : goal.returns
returns g c =
    let self = c.args.self.now in let waits = self.waits in let closed = (queue_of self.client).closed in
    c.is_closed.ensures ∙ sym (closed_waits (queue_of self.client) waits.items ∙ ap (λ (b : Bool). b || closed) (closes_all waits.items c.loop-place.place (omega (arith, waits.ok.0)) c.loop-place.invariant))
