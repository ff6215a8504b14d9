use Rattle.std.proofs.Common.{◌∷◌, [], ◌++◌, ◌<◌, refl, sym, ap, ◌∙◌, append_assoc, rules, append-nil}
use Rattle.std.proofs.lemmas.List.Elements.{All-cons, All-append}
use Rattle.box_core.specs.Mail.{accepted_in}
use Rattle.rtrb.specs.Ring.{received, known_items}
use Rattle.lanes.proofs.Crossing.{none}
use Rattle.lanes.proofs.Taking.{taken_more, taken_count, taken_one, front_below}
use Rattle.lanes.proofs.client.take_in_ring.Goals as goal

pub loop-ring-preserved : goal.loop-ring-preserved
loop-ring-preserved g c =
    let inv = c.loop-ring.invariant in let popped = c.pop_known.ensures in let told = c.answer.ensures in
    record {
      ring = search rules;
      taken = (
        inv.taken.0 ++ c.pop_known.result ∷ [],
        popped.received.0 ∙ ap (λ l. l ++ c.pop_known.result ∷ []) inv.taken.1 ∙ append_assoc (received c.args.ring.now) inv.taken.0 (c.pop_known.result ∷ []),
        taken_more g.W.Work.request g.W.Work.result_of c.args.mailbox.now c.loop-ring.mailbox c.answer.new.self inv.taken.0 c.pop_known.result c.answer.result inv.taken.2 told.answered told.kept told.dropped,
        All-append (λ x. x.ticket < accepted_in c.args.mailbox.now) inv.taken.0 (c.pop_known.result ∷ []) inv.taken.3 (All-cons (λ x. x.ticket < accepted_in c.args.mailbox.now) c.pop_known.result []
            (front_below (known_items c.loop-ring.ring) (known_items c.pop_known.new.self) c.peek_known.result.now c.pop_known.result c.ticket.result c.accepted.result (accepted_in c.args.mailbox.now)
            c.peek_known.ensures popped.received.1 c.ticket.ensures c.if-ticket-accepted.false (c.accepted.ensures ∙ inv.count)) (none (λ x. x.ticket < accepted_in c.args.mailbox.now))),
      );
      count = taken_count g.W.Work.request g.W.Work.result_of c.loop-ring.mailbox c.answer.new.self (c.pop_known.result ∷ []) (taken_one g.W.Work.request g.W.Work.result_of c.loop-ring.mailbox c.answer.new.self c.pop_known.result c.answer.result told.answered told.kept told.dropped) ∙ inv.count;
    }

pub loop-ring-init : goal.loop-ring-init
loop-ring-init g c =
    let looked = c.slots-there.ensures.looked in
    record {
      ring = looked.0;
      taken = ([], looked.1 ∙ sym (append-nil (received c.args.ring.now)), refl, none (λ x. x.ticket < accepted_in c.args.mailbox.now));
      count = refl;
    }

pub returns-then-ticket-accepted : goal.returns-then-ticket-accepted
returns-then-ticket-accepted g c = let inv = c.loop-ring.invariant in record { ring = inv.ring; taken = inv.taken; count = inv.count }

pub returns : goal.returns
returns g c = let inv = c.loop-ring.invariant in record { ring = inv.ring; taken = inv.taken; count = inv.count }
