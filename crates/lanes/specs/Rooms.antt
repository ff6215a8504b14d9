-- Internal: the room that lanes take to settle.
use Rattle.std.specs.Prelude.{◌≡◌, ◌≢◌, ℕ, ◌≤◌, All, List, [], ◌∷◌, length, Vec, vec_capacity}
use Rattle.std.specs.declared.alloc.Global.{Global}
use Rattle.box_core.specs.Answer.{Ticketed}
use Rattle.lanes.specs.Ends.{ClientEnd, WorkerEnd}
use Rattle.lanes.specs.Clients.{mail_of}
use Rattle.lanes.specs.Workers.{ports_of}

module _ {W O : Type 0} where
  -- an empty list with room for the outstanding requests, and for a job of each worker
  abbrev pub HasRoom : ℕ → ClientEnd W O → Vec (Ticketed W) Global → Type 0
  HasRoom workers client left = (left.items ≡ []) × (length (mail_of client).outstanding ≤ vec_capacity left) × (workers ≤ vec_capacity left)

  abbrev pub AllHaveRoom : ℕ → List (ClientEnd W O) → List (Vec (Ticketed W) Global) → Type 0
  AllHaveRoom workers [] [] = Unit {0}
  AllHaveRoom workers (client ∷ clients) (left ∷ lefts) = HasRoom workers client left × AllHaveRoom workers clients lefts
  AllHaveRoom workers clients lefts = ⊥

  -- each worker has a port
  abbrev pub HavePorts : List (WorkerEnd W O) → Type 0
  HavePorts workers = All (λ w. ports_of w ≢ []) workers
