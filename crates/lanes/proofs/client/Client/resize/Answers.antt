use Rattle.std.proofs.Common.{◌≡◌, ℕ, Result, Ok, Err, OnOk, OnErr, refl, ap}
use Rattle.crossbeam_deque.specs.Handles.{worker_view}
use Rattle.box_core.specs.Mail.{Mail, with_capacity}
use Rattle.lanes.specs.Joined.{received_of}
use Rattle.lanes.proofs.Accounting.{same_places}
use Rattle.lanes.proofs.client.Client.resize.Goals as goal

-- the same requests are outstanding, whether the capacity was changed or not
same_requests : {W O A E : Type 0} (P : Type 0) (r : Result A E) (old new : Mail W O) (capacity : ℕ) → OnOk r (P × (new ≡ with_capacity capacity old)) → OnErr r (new ≡ old) → (new.handed ≡ old.handed) × (new.outstanding ≡ old.outstanding)
same_requests P (Ok x) old new capacity ok err = (ap (λ m. m.handed) ok.1, ap (λ m. m.outstanding) ok.1)
same_requests P (Err e) old new capacity ok err = (ap (λ m. m.handed) err, ap (λ m. m.outstanding) err)

pub invariant_of-self-inside : goal.invariant_of-self-inside
invariant_of-self-inside g c =
    let self = c.self.inside in
    let same = same_requests _ c.resize.result c.self.inside.mailbox c.resize.new.self c.args.capacity c.resize.ensures.resized c.resize.ensures.unchanged in
    let whole = same_places g.W.Work.request g.W.Work.result_of (worker_view self.owner).put self.mailbox c.resize.new.self (received_of self.rings.items) same.0 same.1
    (record { numbered = self.numbered; count = self.count; works = self.works; running = self.running; due = self.due })
    (record { credited = self.credited; accounted = self.accounted; few = self.few }) in
    (self.owns, (self.lent, (whole.fits.numbered, (whole.fits.count, (whole.fits.works, (whole.fits.running, (whole.fits.due, (whole.credits.credited, (whole.credits.accounted, (whole.credits.few, tt))))))))))

pub returns : goal.returns
returns g c = rw (← c.self.view_is) (record {
  same = refl;
  resized = c.resize.ensures.resized;
  refused = c.resize.ensures.refused;
  unchanged = c.resize.ensures.unchanged;
  books = (refl, refl);
})
