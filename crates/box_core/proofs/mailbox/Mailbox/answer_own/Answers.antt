-- The place that was lent is the member at its index, so the write to it is that member's change.
use Rattle.std.proofs.Common.{◌-◌, ap, sym, ◌∙◌, slice_set}
use Rattle.std.proofs.lemmas.Result.{IfOk-weaker, on_err_weaker}
use Rattle.std.proofs.lemmas.Option.{get_or_from_slice_get}
use Rattle.box_core.specs.Mail.{Mail}
use Rattle.box_core.proofs.Own.{IfOk-both, kept_own}
use Rattle.box_core.proofs.Places.{set-same}
use Rattle.box_core.proofs.mailbox.Mailbox.answer_own.Goals as goal

pub returns-clause-kept : goal.returns-clause-kept
returns-clause-kept g c =
    let inside = c.self.inside in
    let index = c.args.ticket - inside.handed in
    let at = sym c.in-Some.ensures.value in
    let lent = sym (get_or_from_slice_get inside.places.items index c.in-Some.place.now c.in-Some.place.now at) in
    let mail : Mail g.row.W.Denot g.row.W-Out.Denot = record { capacity = inside.capacity; closed = inside.closed; handed = inside.handed; outstanding = inside.places.items } in
    rw (← c.self.view_is)
    (IfOk-both c.settle_own.result _ _ _
    (λ told called kept. kept_own g.W.Work.request g.W.Work.result_of mail c.args.ticket c.in-Some.place.now c.settle_own.new.self told c.if-ticket-self.false at lent called kept)
    c.settle_own.ensures.answered c.settle_own.ensures.kept)

pub returns-clause-dropped : goal.returns-clause-dropped
returns-clause-dropped g c =
    let inside = c.self.inside in
    let index = c.args.ticket - inside.handed in
    let lent = sym (get_or_from_slice_get inside.places.items index c.in-Some.place.now c.in-Some.place.now (sym c.in-Some.ensures.value)) in
    rw (← c.self.view_is)
    (IfOk-weaker c.settle_own.result _ _
    (λ _ dropped unkept.
    ap (λ places. record { capacity = inside.capacity; closed = inside.closed; handed = inside.handed; outstanding = places })
    (ap (λ place. slice_set inside.places.items index place) (dropped unkept)
    ∙ set-same inside.places.items index c.in-Some.place.now lent))
    c.settle_own.ensures.dropped)

pub returns-clause-unchanged : goal.returns-clause-unchanged
returns-clause-unchanged g c =
    let inside = c.self.inside in
    let index = c.args.ticket - inside.handed in
    let lent = sym (get_or_from_slice_get inside.places.items index c.in-Some.place.now c.in-Some.place.now (sym c.in-Some.ensures.value)) in
    rw (← c.self.view_is)
    (on_err_weaker c.settle_own.result
    (λ same.
    ap (λ places. record { capacity = inside.capacity; closed = inside.closed; handed = inside.handed; outstanding = places })
    (ap (λ place. slice_set inside.places.items index place) same
    ∙ set-same inside.places.items index c.in-Some.place.now lent))
    c.settle_own.ensures.unchanged)
