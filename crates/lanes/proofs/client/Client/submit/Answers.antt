use Rattle.std.proofs.Common.{◌≡◌, ◌∷◌, [], ◌++◌, sym, ap, ◌∙◌, inl, inr, refl}
use Rattle.crossbeam_deque.specs.Handles.{worker_view}
use Rattle.lanes.specs.Books.{ticket_of, work_of}
use Rattle.lanes.specs.Joined.{received_of}
use Rattle.lanes.proofs.Accounting.{submitted}
use Rattle.lanes.proofs.Carried.{puts_at}
use Rattle.lanes.proofs.client.Client.submit.Goals as goal

pub push_as-requires-clause-pushes : goal.push_as-requires-clause-pushes
push_as-requires-clause-pushes g c =
    puts_at ticket_of _ _ _ c.self.inside.owns.0 (ap ticket_of c.of-job.ensures ∙ c.accepted.ensures ∙ sym c.self.inside.count)

pub invariant_of-self-inside : goal.invariant_of-self-inside
invariant_of-self-inside g c =
    let self = c.self.inside in let job = c.of-job.result in let pushed = c.in-Ok-push_as.ensures in
    let put : (worker_view c.push_as.new.self).put ≡ (worker_view self.owner).put ++ job ∷ [] = ap (λ b. b.put) pushed.rule.0 in
    let made = submitted g.W.Work.request g.W.Work.result_of _ _ self.mailbox _ (received_of self.rings.items) _ job
    (record { numbered = self.numbered; count = self.count; works = self.works; running = self.running; due = self.due })
    (record { credited = self.credited; accounted = self.accounted; few = self.few })
    put c.accept.ensures.1 (ap work_of c.of-job.ensures ∙ c.in-Ok-try_clone.ensures) (ap ticket_of c.of-job.ensures ∙ c.accepted.ensures) in
    ((pushed.same.2 ∙ self.owns.0, pushed.same.1 ∙ self.owns.1), ((ap (λ b. b.out) pushed.rule.0 ∙ self.lent.0, ap (λ b. b.taken) pushed.rule.0 ∙ self.lent.1), (made.fits.numbered, (made.fits.count, (made.fits.works, (made.fits.running, (made.fits.due, (made.credits.credited, (made.credits.accounted, (made.credits.few, tt))))))))))

pub returns-in-Err : goal.returns-in-Err
returns-in-Err g c = rw (← c.self.view_is) (record {
  same = refl;
  put = tt;
  accepted = tt;
  admitted = tt;
  refused = inl c.in-Err.ensures.refused;
  back = refl;
  unchanged = (refl, refl);
  came = refl;
})

pub returns-in_default : goal.returns-in_default
returns-in_default g c = rw (← c.self.view_is) (record {
  same = refl;
  put = tt;
  accepted = tt;
  admitted = tt;
  refused = inr (c.in-Ok.ensures.admitted, refl);
  back = refl;
  unchanged = (refl, refl);
  came = refl;
})

pub push_as-requires-clause-full : goal.push_as-requires-clause-full
push_as-requires-clause-full g c = λ items views full carried at. tt
