use Rattle.std.proofs.Common.{refl, ap}
use Rattle.crossbeam_deque.specs.Handles.{worker_view}
use Rattle.lanes.specs.Joined.{received_of}
use Rattle.lanes.proofs.Accounting.{same_places}
use Rattle.lanes.proofs.client.Client.close.Goals as goal

pub invariant_of-self-inside : goal.invariant_of-self-inside
invariant_of-self-inside g c =
    let self = c.self.inside in
    let whole = same_places g.W.Work.request g.W.Work.result_of (worker_view self.owner).put self.mailbox c.close.new.self (received_of self.rings.items) (ap (λ m. m.handed) c.close.ensures.closed) (ap (λ m. m.outstanding) c.close.ensures.closed)
    (record { numbered = self.numbered; count = self.count; works = self.works; running = self.running; due = self.due })
    (record { credited = self.credited; accounted = self.accounted; few = self.few }) in
    (self.owns, (self.lent, (whole.fits.numbered, (whole.fits.count, (whole.fits.works, (whole.fits.running, (whole.fits.due, (whole.credits.credited, (whole.credits.accounted, (whole.credits.few, tt))))))))))

pub returns : goal.returns
returns g c = rw (← c.self.view_is) (record {
  same = refl;
  «open» = c.close.ensures.open;
  closed = c.close.ensures.closed;
  books = (refl, refl);
})
