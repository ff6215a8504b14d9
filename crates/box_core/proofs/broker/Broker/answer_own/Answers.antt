use Rattle.std.proofs.Common.{refl, slice_get, Some, length, ◌≡◌, ◌<◌}
use Rattle.box_core.specs.Mail.{status_in}
use Rattle.box_core.proofs.Own.{own_step}
use Rattle.box_core.proofs.Places.{slice_get-lent}
use Rattle.box_core.proofs.broker.Broker.answer_own.Goals as goal

pub returns-clause-answered : goal.returns-clause-answered
returns-clause-answered g c =
    let mails = c.self.inside.boxes.items in
    let mail = c.in-Some.mailbox.now in
    let told = c.in_ok-told in
    let below : c.args.client < length mails = rw (← c.self.inside.boxes.ok.0) (c.in-Some.ensures.variant.0 refl) in
    let at : slice_get mails c.args.client ≡ Some mail = slice_get-lent mails c.args.client mail below c.in-Some.ensures.value in
    rw (← c.self.view_is)
    (rw at
    (own_step g.W.Work.request g.W.Work.result_of mails c.args.client c.args.ticket mail c.answer_own.new.self told.told c.in-Some.ensures.value below told.ensures.answered told.ensures.kept told.ensures.dropped (status_in mail c.args.ticket) refl))
