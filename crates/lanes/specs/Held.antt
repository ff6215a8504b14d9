-- What a worker holds of one lane.
use Rattle.std.specs.Prelude.{List, [], ◌∷◌}
use Rattle.box_core.specs.Answer.{Ticketed}
use Rattle.lanes.specs.declared.port.Held.{Held}
use Rattle.lanes.specs.declared.port.Held.TheVariants as held

-- what is held, as a list: a job, or its answer
abbrev pub held_in : {W O : Type 0} → Held W O → List (Ticketed W)
held_in held.Nothing = []
held_in (held.Job job) = job ∷ []
held_in (held.Done done) = done ∷ []

module _ {W O : Type 0} where
  abbrev pub HoldsJob : Held W O → Type 0
  HoldsJob held.Nothing = ⊥
  HoldsJob (held.Job job) = Unit {0}
  HoldsJob (held.Done done) = ⊥

  abbrev pub HoldsAnswer : Held W O → Type 0
  HoldsAnswer held.Nothing = ⊥
  HoldsAnswer (held.Job job) = ⊥
  HoldsAnswer (held.Done done) = Unit {0}

  -- the job that is held, if it is one
  abbrev pub jobs_in : Held W O → List (Ticketed W)
  jobs_in held.Nothing = []
  jobs_in (held.Job job) = job ∷ []
  jobs_in (held.Done done) = []

  -- the answer that is held, if it is one
  abbrev pub answers_in : Held W O → List (Ticketed W)
  answers_in held.Nothing = []
  answers_in (held.Job job) = []
  answers_in (held.Done done) = done ∷ []
