use Rattle.lanes.specs.declared.port.Held.TheVariants as held
use Rattle.lanes.specs.declared.gate.Stepped.TheVariants as stepped
use Rattle.lanes.specs.Held.{held_in, jobs_in, HoldsJob}
use Rattle.lanes.specs.Runs.{SeesRun}
use Rattle.rtrb.specs.Ring.{sent}
use Rattle.std.proofs.Common.{refl, sym, ap, subst, ◌∙◌, ◌++◌}
use Rattle.lanes.proofs.port.Port.finish.Goals as goal

pub invariant_of-self-inside : goal.invariant_of-self-inside
invariant_of-self-inside g c =
    let self = c.self.inside in
    (self.seated, (self.live, (self.room, (self.rises, (ap (λ h. sent self.sender ++ held_in h) (c.in-Nothing.ensures.after ∙ c.in-Nothing.ensures.value) ∙ self.carried, tt)))))

pub returns-in-Nothing : goal.returns-in-Nothing
returns-in-Nothing g c =
    let told = c.in-Nothing.ensures in
    rw (← c.self.view_is) (record {
      same = ((refl, refl), refl);
      finishes = ((refl, refl, ap (λ h. held_in h) (told.after ∙ told.value)), ap (λ h. held_in h) (sym told.value));
      seen = subst (λ h. SeesRun g.V.Watch.entered g.V.Watch.left c.args.lane (jobs_in h) stepped.Idle c.args.watch.now c.args.watch.now) told.value refl;
    })

pub invariant_of-self-inside-in-Err : goal.invariant_of-self-inside-in-Err
invariant_of-self-inside-in-Err g c =
    let self = c.self.inside in
    (self.seated, (self.live, (self.room, (self.rises, (ap (λ h. sent self.sender ++ held_in h) (ap held.Job c.in-Err.ensures.run ∙ c.in-Job.ensures.value) ∙ self.carried, tt)))))

pub returns-in-Err : goal.returns-in-Err
returns-in-Err g c = rw (← c.self.view_is) (record {
  same = ((refl, refl), refl);
  finishes = ((refl, refl, ap (λ h. held_in h) (ap held.Job c.in-Err.ensures.run ∙ c.in-Job.ensures.value)), subst (λ h. HoldsJob h) c.in-Job.ensures.value tt, tt);
  seen = subst (λ h. SeesRun g.V.Watch.entered g.V.Watch.left c.args.lane (jobs_in h) stepped.NoMemory c.args.watch.now c.run_watched.new.watch) c.in-Job.ensures.value (c.run_watched.new.watch, c.in-Err.ensures.seen, refl);
})
