use Rattle.lanes.proofs.Replies.{answered_fits}
use Rattle.lanes.proofs.settled.Settled.answer.Goals as goal

pub invariant_of-self-inside : goal.invariant_of-self-inside
invariant_of-self-inside g c =
    let self = c.self.inside in
    let fits = answered_fits g.W.Work.request g.W.Work.result_of _ self.mailbox _ c.args.done c.answer.result (record { numbered = self.numbered; count = self.count; works = self.works; running = self.running; due = self.due })
    c.answer.ensures.answered c.answer.ensures.kept c.answer.ensures.dropped in
    (fits.numbered, (fits.count, (fits.works, (fits.running, (fits.due, tt)))))
