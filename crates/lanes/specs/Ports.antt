-- What a clause says of a worker's end of a lane.
use Rattle.std.specs.Prelude.{◌≡◌, List, [], ◌++◌, length}
use Rattle.box_core.specs.Answer.{Ticketed}
use Rattle.lanes.specs.Ends.{LaneEnd}
use Rattle.lanes.specs.Held.{held_in, HoldsJob, HoldsAnswer}
use Rattle.lanes.specs.declared.gate.Stepped.{Stepped}
use Rattle.lanes.specs.declared.gate.Stepped.TheVariants as stepped

module _ {W O : Type 0} where
  -- the jobs that the worker took from the lane, in order
  abbrev pub taken_at : LaneEnd W O → List (Ticketed W)
  taken_at p = p.taken

  -- the answers that the worker sent to the lane, in order
  abbrev pub sent_at : LaneEnd W O → List (Ticketed W)
  sent_at p = p.sent

  -- the job or answer of the lane that the worker holds, if any
  abbrev pub held_at : LaneEnd W O → List (Ticketed W)
  held_at p = held_in p.held

  -- the same end of the same lane
  abbrev pub SamePort : LaneEnd W O → LaneEnd W O → Type 0
  SamePort p q = (q.link ≡ p.link) × (q.number ≡ p.number)

  -- no book of the port changed
  abbrev pub SameBooks : LaneEnd W O → LaneEnd W O → Type 0
  SameBooks p q = (taken_at q ≡ taken_at p) × (sent_at q ≡ sent_at p) × (held_at q ≡ held_at p)

  -- What a step did with what the port held: it was sent, or it is held still, as a job or as an answer.
  abbrev pub Finishes : LaneEnd W O → Stepped → LaneEnd W O → Type 0
  Finishes p stepped.Answered q = (sent_at q ≡ sent_at p ++ held_at p) × (held_at q ≡ []) × (length (held_at p) ≡ 1)
  Finishes p stepped.Idle q = SameBooks p q × (held_at p ≡ [])
  Finishes p stepped.Again q = ⊥
  Finishes p stepped.NoMemory q = SameBooks p q × HoldsJob p.held × HoldsJob q.held
  Finishes p stepped.RingFull q = SameBooks p q × HoldsAnswer q.held
