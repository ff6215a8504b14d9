-- What a clause says of a worker's step: of its ports before and after.
use Rattle.std.specs.Prelude.{◌≡◌, ◌≢◌, ℕ, ◌+◌, ◌<◌, Bool, true, false, All, List, [], ◌++◌, length, slice_index_or}
use Rattle.box_core.specs.Answer.{Ticketed}
use Rattle.lanes.specs.Ends.{LaneEnd}
use Rattle.lanes.specs.declared.gate.Stepped.{Stepped}
use Rattle.lanes.specs.declared.gate.Stepped.TheVariants as stepped
use Rattle.lanes.specs.Held.{HoldsJob, HoldsAnswer, answers_in}
use Rattle.lanes.specs.Ports.{taken_at, sent_at, held_at, SamePort, SameBooks}

-- whether a job or an answer is held after a step
abbrev pub keeps : Stepped → Bool
keeps stepped.Answered = false
keeps stepped.Idle = false
keeps stepped.Again = false
keeps stepped.NoMemory = true
keeps stepped.RingFull = true

module _ {W O : Type 0} where
  -- the same port, and no book of it changed
  abbrev pub Rests : LaneEnd W O → LaneEnd W O → Type 0
  Rests p q = SamePort p q × SameBooks p q

  abbrev pub HoldNothing : List (LaneEnd W O) → Type 0
  HoldNothing ports = All (λ p. held_at p ≡ []) ports

  -- something is held for this lane
  abbrev pub Holds : List (LaneEnd W O) → ℕ → Type 0
  Holds ports lane = (d : LaneEnd W O) → length (held_at (slice_index_or ports lane d)) ≡ 1

  -- no port changed
  pub record Unchanged (old new : List (LaneEnd W O)) : Type 0 where
    pub count : length new ≡ length old
    pub rests : (c : ℕ) (d : LaneEnd W O) → c < length old → Rests (slice_index_or old c d) (slice_index_or new c d)

  -- what became of the one job or answer that was at hand: where memory was refused, it was no answer before
  abbrev pub Ends : List (Ticketed W) → LaneEnd W O → Stepped → LaneEnd W O → Type 0
  Ends hand p stepped.Answered q = (sent_at q ≡ sent_at p ++ hand) × (held_at q ≡ [])
  Ends hand p stepped.Idle q = ⊥
  Ends hand p stepped.Again q = ⊥
  Ends hand p stepped.NoMemory q = (sent_at q ≡ sent_at p) × (held_at q ≡ hand) × HoldsJob q.held × (answers_in p.held ≡ [])
  Ends hand p stepped.RingFull q = (sent_at q ≡ sent_at p) × (held_at q ≡ hand) × HoldsAnswer q.held

  -- One lane was served: what was held for it, or else one job that was taken from it.
  pub record Serves (p : LaneEnd W O) (result : Stepped) (q : LaneEnd W O) : Type 0 where
    pub same : SamePort p q
    pub new : List (Ticketed W)
    pub taken : taken_at q ≡ taken_at p ++ new
    pub one : length (held_at p) + length new ≡ 1
    pub ends : Ends (held_at p ++ new) p result q

  -- One port was served, and the others rested: what is held is served before anything else is taken.
  pub record ServesOne (old : List (LaneEnd W O)) (result : Stepped) (new : List (LaneEnd W O)) : Type 0 where
    pub count : length new ≡ length old
    pub lane : ℕ
    pub within : lane < length old
    pub serves : (d : LaneEnd W O) → Serves (slice_index_or old lane d) result (slice_index_or new lane d)
    pub rests : (c : ℕ) (d : LaneEnd W O) → c < length old → c ≢ lane → Rests (slice_index_or old c d) (slice_index_or new c d)
    pub first : (c : ℕ) (d : LaneEnd W O) → c < length old → c ≢ lane → held_at (slice_index_or old c d) ≡ []

  -- A step: `Idle` and `Again` come where nothing was held, and change no port.
  abbrev pub Steps : List (LaneEnd W O) → Stepped → List (LaneEnd W O) → Type 0
  Steps old stepped.Answered new = ServesOne old stepped.Answered new
  Steps old stepped.Idle new = HoldNothing old × Unchanged old new
  Steps old stepped.Again new = HoldNothing old × Unchanged old new
  Steps old stepped.NoMemory new = ServesOne old stepped.NoMemory new
  Steps old stepped.RingFull new = ServesOne old stepped.RingFull new
