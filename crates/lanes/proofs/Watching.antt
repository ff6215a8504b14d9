-- What a worker's watch sees of the one lane that is served.
use Rattle.std.proofs.Common.{◌≡◌, ℕ, ◌<◌, ◌≤◌, List, [], ◌++◌, drop, length, get_or, set, sym, refl, ap, ◌∙◌, subst, append-nil, arith, get_or-set_same, get_or-set_other}
use lib.Seq.{drop-length, drop-append_seam}
use Rattle.std.specs.Prelude.{sum_by}
use Rattle.lanes.specs.Ends.{LaneEnd}
use Rattle.lanes.specs.declared.gate.Stepped.{Stepped}
use Rattle.lanes.specs.declared.gate.Stepped.TheVariants as stepped
use Rattle.lanes.specs.declared.port.Held.{Held}
use Rattle.lanes.specs.declared.port.Held.TheVariants as held
use Rattle.lanes.specs.Held.{held_in, jobs_in, HoldsJob}
use Rattle.lanes.specs.Ports.{taken_at, held_at, Finishes}
use Rattle.lanes.specs.Steps.{Holds, Rests, HoldNothing, Unchanged}
use Rattle.lanes.specs.Runs.{SeesRun}
use Rattle.lanes.specs.Watched.{ran_at, WatchesOne, Watches}
use Rattle.lanes.proofs.Serving.{holds_one, same_default, two_of, nothing_is}

no_job : {W O : Type 0} (h : Held W O) → held_in h ≡ [] → jobs_in h ≡ []
no_job held.Nothing e = refl
no_job (held.Job job) e = e
no_job (held.Done done) e = refl

the_job : {W O : Type 0} (h : Held W O) → HoldsJob h → held_in h ≡ jobs_in h
the_job held.Nothing j = absurd j
the_job (held.Job job) j = refl
the_job (held.Done done) j = absurd j

module _ {W O : Type 0} where
  -- a lane that rests, for which nothing is held, runs nothing
  rests_ran : (p q : LaneEnd W O) → taken_at q ≡ taken_at p → held_at p ≡ [] → ran_at p q ≡ []
  rests_ran p q same none =
      ap (λ l. l ++ drop (length (taken_at p)) (taken_at q)) (no_job p.held none) ∙ ap (λ l. drop (length (taken_at p)) l) same ∙ drop-length (taken_at p)

  -- what was held as a job is run, where nothing is taken
  held_ran : (p q : LaneEnd W O) → taken_at q ≡ taken_at p → ran_at p q ≡ jobs_in p.held
  held_ran p q same =
      ap (λ l. jobs_in p.held ++ l) (ap (λ l. drop (length (taken_at p)) l) same ∙ drop-length (taken_at p)) ∙ append-nil (jobs_in p.held)

  -- a job that is taken is run, where nothing was held
  taken_ran : (p0 p1 q : LaneEnd W O) → held_at p0 ≡ [] → HoldsJob p1.held → taken_at p1 ≡ taken_at p0 ++ held_at p1 → taken_at q ≡ taken_at p1 → ran_at p0 q ≡ jobs_in p1.held
  taken_ran p0 p1 q none job taken same =
      ap (λ l. l ++ drop (length (taken_at p0)) (taken_at q)) (no_job p0.held none) ∙ ap (λ l. drop (length (taken_at p0)) l) (same ∙ taken) ∙ drop-append_seam (taken_at p0) (held_at p1) ∙ the_job p1.held job

  module _ {V : Type 0} (entered left : ℕ → ℕ → V → V → Type 0) where
    watches_of : (result : Stepped) (p q : LaneEnd W O) (old new : List (LaneEnd W O)) (v w : V) → Finishes p result q → length (held_at p) ≡ 1 → WatchesOne entered left old result new v w → Watches entered left old result new v w
    watches_of stepped.Answered p q old new v w f one s = s
    watches_of stepped.Idle p q old new v w f one s = let e : length (held_at p) ≡ 0 = ap length f.1 in absurd (omega (arith, e, one))
    watches_of stepped.Again p q old new v w f one s = absurd f
    watches_of stepped.NoMemory p q old new v w f one s = s
    watches_of stepped.RingFull p q old new v w f one s = s

    -- a job is taken and run
    pub watched : (old ports : List (LaneEnd W O)) (lane : ℕ) (p p1 q : LaneEnd W O) (result : Stepped) (v w : V) → HoldNothing old → Unchanged old ports → lane < length ports → p ≡ get_or ports lane p
        → HoldsJob p1.held → taken_at p1 ≡ taken_at p ++ held_at p1 → taken_at q ≡ taken_at p1 → Finishes p1 result q → SeesRun entered left lane (jobs_in p1.held) result v w
        → Watches entered left old result (set ports lane q) v w
    watched old ports lane p p1 q result v w nothing un within is job taken1 taken2 fin seen =
        let new : List (LaneEnd W O) = set ports lane q in
        let n : length ports ≡ length old = un.count in
        watches_of result p1 q old new v w fin (holds_one p1.held job) (record {
          lane = lane;
          within = omega arith;
          sees = λ d.
              let p0 : LaneEnd W O = get_or old lane d in
              let here : get_or new lane d ≡ q = get_or-set_same ports lane q d within in
              let was : get_or ports lane d ≡ p = same_default ports lane d p within ∙ sym is in
              let rests : Rests p0 p = subst (λ x. Rests p0 x) was (un.rests lane d (omega arith)) in
              let ran : ran_at p0 q ≡ jobs_in p1.held = taken_ran p0 p1 q (nothing lane d (omega arith)) job (taken1 ∙ ap (λ l. l ++ held_at p1) rests.1.0) taken2 in
              subst (λ l. SeesRun entered left lane l result v w) (sym (ap (λ x. ran_at p0 x) here ∙ ran)) seen;
          alone = λ c d h apart.
              let there : get_or new c d ≡ get_or ports c d = get_or-set_other ports lane c q d apart in
              rests_ran (get_or old c d) (get_or new c d) (ap (λ (x : LaneEnd W O). taken_at x) there ∙ (un.rests c d h).1.0) (nothing c d h);
        })

    -- what is held is tried again
    pub watched_held : (ports : List (LaneEnd W O)) (lane : ℕ) (p q : LaneEnd W O) (result : Stepped) (v w : V) → lane < length ports → p ≡ get_or ports lane p → Holds ports lane → sum_by (λ p. length (held_at p)) ports ≤ 1
        → taken_at q ≡ taken_at p → Finishes p result q → SeesRun entered left lane (jobs_in p.held) result v w → Watches entered left ports result (set ports lane q) v w
    watched_held ports lane p q result v w within is holds most taken fin seen =
        let new : List (LaneEnd W O) = set ports lane q in
        let one : length (held_at p) ≡ 1 = ap (λ (x : LaneEnd W O). length (held_at x)) is ∙ holds p in
        watches_of result p q ports new v w fin one (record {
          lane = lane;
          within = within;
          sees = λ d.
              let here : get_or new lane d ≡ q = get_or-set_same ports lane q d within in
              let was : get_or ports lane d ≡ p = same_default ports lane d p within ∙ sym is in
              let ran : ran_at (get_or ports lane d) (get_or new lane d) ≡ jobs_in p.held = (λ i. ran_at (was i) (here i)) ∙ held_ran p q taken in
              subst (λ l. SeesRun entered left lane l result v w) (sym ran) seen;
          alone = λ c d h apart.
              let there : get_or new c d ≡ get_or ports c d = get_or-set_other ports lane c q d apart in
              rests_ran (get_or ports c d) (get_or new c d) (ap (λ (x : LaneEnd W O). taken_at x) there)
              (nothing_is (held_at (get_or ports c d)) (let b = two_of (λ (x : LaneEnd W O). length (held_at x)) ports lane c d d apart within h in let o = holds d in omega (arith, b, o, most)));
        })
