use Rattle.std.proofs.Common.{sym, ap, ◌∙◌, map}
use Rattle.crossbeam_deque.specs.Handles.{worker_deque, worker_view}
use Rattle.lanes.specs.Clients.{reply_of}
use Rattle.lanes.specs.Identities.{link}
use Rattle.lanes.specs.Joined.{received_of}
use Rattle.lanes.proofs.Accounting.{polled, released}
use Rattle.lanes.proofs.Replies.{releases, released_right}
use Rattle.lanes.proofs.client.Client.poll.Goals as goal

pub invariant_of-self-inside : goal.invariant_of-self-inside
invariant_of-self-inside g c =
    let self = c.self.inside in let rings = c.take_in_rings-came.ensures.rings in let taken = c.take_in_rings-came.ensures.taken in
    let mid = polled g.W.Work.request g.W.Work.result_of (worker_view self.owner).put self.mailbox c.take_in_rings-came.new.mailbox (received_of self.rings.items) (received_of c.take_in_rings-came.new.rings.items) taken.0
    (record { numbered = self.numbered; count = self.count; works = self.works; running = self.running; due = self.due })
    (record { credited = self.credited; accounted = self.accounted; few = self.few }) taken.1 taken.2 taken.3 in
    let whole = released g.W.Work.request g.W.Work.result_of (worker_view self.owner).put c.take_in_rings-came.new.mailbox c.release.new.self (received_of c.take_in_rings-came.new.rings.items) (reply_of c.release.result) mid (releases g.W.Work.request g.W.Work.result_of c.take_in_rings-came.new.mailbox c.release.new.self c.release.result c.release.ensures.handed c.release.ensures.nothing) in
    (self.owns, ((self.lent.0 ∙ sym rings.0, self.lent.1), (whole.fits.numbered, (whole.fits.count, (whole.fits.works, (whole.fits.running, (whole.fits.due, (whole.credits.credited, (whole.credits.accounted, (whole.credits.few, tt))))))))))

pub returns-clause-same : goal.returns-clause-same
returns-clause-same g c = rw (← c.self.view_is) (ap (λ rings. map (λ ring. link (worker_deque c.self.inside.owner) ring) rings) c.take_in_rings-came.ensures.rings.1)

pub returns-clause-polls : goal.returns-clause-polls
returns-clause-polls g c =
    let taken = c.take_in_rings-came.ensures.taken in
    rw (← c.self.view_is) (record {
      answers = taken.0;
      came = taken.1;
      mid = c.take_in_rings-came.new.mailbox;
      taken_in = taken.2;
      released = releases g.W.Work.request g.W.Work.result_of c.take_in_rings-came.new.mailbox c.release.new.self c.release.result c.release.ensures.handed c.release.ensures.nothing;
    })

pub returns-clause-right : goal.returns-clause-right
returns-clause-right g c =
    let self = c.self.inside in let taken = c.take_in_rings-came.ensures.taken in
    let mid = polled g.W.Work.request g.W.Work.result_of (worker_view self.owner).put self.mailbox c.take_in_rings-came.new.mailbox (received_of self.rings.items) (received_of c.take_in_rings-came.new.rings.items) taken.0
    (record { numbered = self.numbered; count = self.count; works = self.works; running = self.running; due = self.due })
    (record { credited = self.credited; accounted = self.accounted; few = self.few }) taken.1 taken.2 taken.3 in
    rw (← c.self.view_is) (released_right g.W.Work.request g.W.Work.result_of (worker_view self.owner).put c.take_in_rings-came.new.mailbox c.release.new.self c.release.result mid.fits c.release.ensures.handed)
