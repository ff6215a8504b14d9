-- Which ends `lanes` makes, and when it is refused.
use Rattle.std.specs.Prelude.{◌≡◌, ℕ, ◌||◌, ◌==◌, nat_lt, if◌then◌else◌, All, List, [], Option, Some, None}
use Rattle.box_core.specs.Mail.{fresh, is_no_capacity}
use Rattle.lanes.specs.Ends.{ClientEnd, WorkerEnd}
use Rattle.lanes.specs.declared.fault.LaneFault.{LaneFault}
use Rattle.lanes.specs.declared.fault.LaneFault.TheVariants as fault
use Rattle.lanes.specs.Clients.{put_of, mail_of, came_to}
use Rattle.lanes.specs.Ports.{taken_at, held_at}
use Rattle.lanes.specs.Workers.{ports_of}

-- why lanes are not made, memory aside: the first that applies
abbrev pub fault_in : ℕ → ℕ → ℕ → Option LaneFault
fault_in clients workers capacity =
    if ((clients == 0) || nat_lt 64 clients) || ((workers == 0) || nat_lt 8 workers) then Some fault.Count
    else (if is_no_capacity capacity then Some fault.Capacity
    else None)

module _ {W O : Type 0} where
  -- clients that put nothing and got no answer
  abbrev pub AreNew : ℕ → List (ClientEnd W O) → Type 0
  AreNew capacity clients = All (λ c. (put_of c ≡ []) × (came_to c ≡ []) × (mail_of c ≡ fresh 0 capacity)) clients

  -- workers that took nothing, so hold nothing and sent nothing
  abbrev pub AreIdle : List (WorkerEnd W O) → Type 0
  AreIdle workers = All (λ w. All (λ p. (taken_at p ≡ []) × (held_at p ≡ [])) (ports_of w)) workers
