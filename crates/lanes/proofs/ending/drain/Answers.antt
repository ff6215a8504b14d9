use Rattle.std.proofs.Common.{◌∷◌, [], ◌++◌, sym, ap, ◌∙◌, append_assoc}
use Rattle.rtrb.specs.Ring.{received, known_items}
use Rattle.lanes.proofs.Taking.{taken_more}
use Rattle.lanes.proofs.ending.drain.Goals as goal

pub loop-mailbox-preserved : goal.loop-mailbox-preserved
loop-mailbox-preserved g c =
    let inv = c.loop-mailbox.invariant in let popped = c.pop_known.ensures in let told = c.answer.ensures in
    record {
      fifo = ap (λ l. l ++ known_items c.pop_known.new.self) popped.received.0 ∙ append_assoc (received c.loop-mailbox.ring) (c.pop_known.result ∷ []) (known_items c.pop_known.new.self) ∙ ap (λ l. received c.loop-mailbox.ring ++ l) (sym popped.received.1) ∙ inv.fifo;
      taken = (
        inv.taken.0 ++ c.pop_known.result ∷ [],
        popped.received.0 ∙ ap (λ l. l ++ c.pop_known.result ∷ []) inv.taken.1 ∙ append_assoc (received c.args.ring.now) inv.taken.0 (c.pop_known.result ∷ []),
        taken_more g.W.Work.request g.W.Work.result_of c.args.mailbox.now c.loop-mailbox.mailbox c.answer.new.self inv.taken.0 c.pop_known.result c.answer.result inv.taken.2 told.answered told.kept told.dropped,
      );
    }
