use Rattle.lanes.proofs.Replies.{released_fits, released_right, released_none}
use Rattle.lanes.proofs.settled.Settled.release.Goals as goal

pub invariant_of-self-inside : goal.invariant_of-self-inside
invariant_of-self-inside g c =
    let self = c.self.inside in
    let fits = released_fits g.W.Work.request g.W.Work.result_of _ self.mailbox _ c.release.result (record { numbered = self.numbered; count = self.count; works = self.works; running = self.running; due = self.due })
    c.release.ensures.handed c.release.ensures.nothing in
    (fits.numbered, (fits.count, (fits.works, (fits.running, (fits.due, tt)))))

pub returns-clause-right : goal.returns-clause-right
returns-clause-right g c =
    let self = c.self.inside in
    rw (← c.self.view_is)
    (released_right g.W.Work.request g.W.Work.result_of _ self.mailbox _ c.release.result (record { numbered = self.numbered; count = self.count; works = self.works; running = self.running; due = self.due }) c.release.ensures.handed)

pub returns-clause-nothing : goal.returns-clause-nothing
returns-clause-nothing g c = rw (← c.self.view_is) (released_none c.self.inside.mailbox _ c.release.result c.release.ensures.nothing)
