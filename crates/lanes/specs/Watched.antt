-- What a worker's watch sees of a step.
use Rattle.std.specs.Prelude.{◌≡◌, ◌≢◌, ℕ, ◌<◌, List, [], ◌++◌, drop, length, slice_index_or}
use Rattle.box_core.specs.Answer.{Ticketed}
use Rattle.lanes.specs.Ends.{LaneEnd}
use Rattle.lanes.specs.declared.gate.Stepped.{Stepped}
use Rattle.lanes.specs.declared.gate.Stepped.TheVariants as stepped
use Rattle.lanes.specs.Held.{jobs_in}
use Rattle.lanes.specs.Ports.{taken_at}
use Rattle.lanes.specs.Runs.{SeesRun}

module _ {W O : Type 0} where
  -- the job of a lane that a step ran, if any: the one that was held, or the one that it took
  abbrev pub ran_at : LaneEnd W O → LaneEnd W O → List (Ticketed W)
  ran_at p q = jobs_in p.held ++ drop (length (taken_at p)) (taken_at q)

  module _ {V : Type 0} (entered left : ℕ → ℕ → V → V → Type 0) where
    -- What is seen of one lane is all: no other ran anything.
    pub record WatchesOne (old : List (LaneEnd W O)) (result : Stepped) (new : List (LaneEnd W O)) (v w : V) : Type 0 where
      pub lane : ℕ
      pub within : lane < length old
      pub sees : (d : LaneEnd W O) → SeesRun entered left lane (ran_at (slice_index_or old lane d) (slice_index_or new lane d)) result v w
      pub alone : (c : ℕ) (d : LaneEnd W O) → c < length old → c ≢ lane → ran_at (slice_index_or old c d) (slice_index_or new c d) ≡ []

    -- What is seen of a step: nothing where no lane gave a job.
    abbrev pub Watches : List (LaneEnd W O) → Stepped → List (LaneEnd W O) → V → V → Type 0
    Watches old stepped.Answered new v w = WatchesOne old stepped.Answered new v w
    Watches old stepped.Idle new v w = w ≡ v
    Watches old stepped.Again new v w = w ≡ v
    Watches old stepped.NoMemory new v w = WatchesOne old stepped.NoMemory new v w
    Watches old stepped.RingFull new v w = WatchesOne old stepped.RingFull new v w
