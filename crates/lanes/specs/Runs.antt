-- What a worker's watch sees of a run.
use Rattle.std.specs.Prelude.{◌≡◌, ℕ, List, [], ◌∷◌, Result, Ok, Err}
use Rattle.box_core.specs.Answer.{Ticketed}
use Rattle.lanes.specs.declared.gate.Stepped.{Stepped}
use Rattle.lanes.specs.declared.gate.Stepped.TheVariants as stepped

module _ {V : Type 0} (entered left : ℕ → ℕ → V → V → Type 0) where
  -- after a run: a call, unless memory was refused
  abbrev pub SeesEnd : ℕ → ℕ → Stepped → V → V → Type 0
  SeesEnd lane ticket stepped.Answered v w = left lane ticket v w
  SeesEnd lane ticket stepped.Idle v w = ⊥
  SeesEnd lane ticket stepped.Again v w = ⊥
  SeesEnd lane ticket stepped.NoMemory v w = w ≡ v
  SeesEnd lane ticket stepped.RingFull v w = left lane ticket v w

  -- where one job of a lane is run, or none: a call before the run, and then what comes after it
  abbrev pub SeesRun : {W : Type 0} → ℕ → List (Ticketed W) → Stepped → V → V → Type 0
  SeesRun lane [] result v w = w ≡ v
  SeesRun lane (job ∷ _) result v w = (mid : V) × entered lane job.ticket v mid × SeesEnd lane job.ticket result mid w

  -- the same of a run by what it gave: an answer, or the job again
  abbrev pub IsRunSeen : {D J : Type 0} → ℕ → ℕ → Result D J → V → V → Type 0
  IsRunSeen lane ticket (Ok done) v w = (mid : V) × entered lane ticket v mid × left lane ticket mid w
  IsRunSeen lane ticket (Err job) v w = entered lane ticket v w
