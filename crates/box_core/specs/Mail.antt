-- The state of one client, and what each call makes of it.
use Rattle.std.specs.Prelude.{ℕ, zero, suc, ◌+◌, ◌-◌, ◌^◌, ◌≤◌, Bool, true, false, ◌||◌, ◌==◌, nat_lt, if◌then◌else◌, List, [], ◌∷◌, ◌++◌, length, drop, slice_get, Option, Some, None, is_some}
use Rattle.std.specs.Option.{option_map}
use Rattle.box_core.specs.declared.faults.Refusal.{Refusal}
use Rattle.box_core.specs.declared.faults.Refusal.TheVariants as refusal

-- an outstanding request, whether it was taken, and the outcome that was kept for it
pub record Place (W O : Type 0) : Type 0 where
  pub work : W
  pub taken : Bool
  pub kept : Option O

-- a client's capacity, whether it is closed, how many of its requests were handed their results, and
-- the outstanding ones in the order of acceptance
pub record Mail (W O : Type 0) : Type 0 where
  pub capacity : ℕ
  pub closed : Bool
  pub handed : ℕ
  pub outstanding : List (Place W O)

-- where a ticket stands
pub data Status (W : Type 0) : Type 0 where
  -- it was never accepted
  Unknown : Status W
  -- it was accepted, and not taken
  Waiting : (work : W) → Status W
  -- it was taken, and no answer was kept
  Running : (work : W) → Status W
  -- an answer was kept
  Settled : Status W

-- a capacity that a client may have
abbrev pub IsCapacity : ℕ → Type 0
IsCapacity n = (1 ≤ n) × (n ≤ 4096)

-- whether it is 0 or over 4096
abbrev pub is_no_capacity : ℕ → Bool
is_no_capacity n = (n == 0) || nat_lt 4096 n

-- xs with f of the member at i in its place
abbrev pub changed_at : {A : Type 0} → (A → A) → List A → ℕ → List A
changed_at f [] i = []
changed_at f (x ∷ xs) zero = f x ∷ xs
changed_at f (x ∷ xs) (suc i) = x ∷ changed_at f xs i

-- why one more request is not accepted: the first that applies
abbrev pub refusal_by : Bool → ℕ → ℕ → ℕ → Option Refusal
refusal_by closed capacity accepted handed =
    if closed then Some refusal.Closed
    else (if accepted - handed == capacity then Some refusal.Full
    else (if accepted == 2 ^ 60 then Some refusal.Spent
    else None))

-- why a capacity n is not given: the first that applies
abbrev pub resize_refusal_by : Bool → ℕ → ℕ → ℕ → Option Refusal
resize_refusal_by closed accepted handed n =
    if closed then Some refusal.Closed
    else (if is_no_capacity n then Some refusal.Capacity
    else (if nat_lt n (accepted - handed) then Some refusal.Small
    else None))

module _ {W O : Type 0} where
  -- where a ticket stands whose request is this one, if it was accepted
  abbrev pub status_by : Option W → Bool → Option O → Status W
  status_by None taken kept = Unknown
  status_by (Some work) false kept = Waiting work
  status_by (Some work) true None = Running work
  status_by (Some work) true (Some outcome) = Settled

  -- how many requests were accepted, which is also the next ticket
  abbrev pub accepted_in : Mail W O → ℕ
  accepted_in mail = mail.handed + length mail.outstanding

  -- a client without outstanding requests, as if this many were accepted and handed
  abbrev pub fresh : ℕ → ℕ → Mail W O
  fresh handed capacity = record { capacity = capacity; closed = false; handed = handed; outstanding = [] }

  abbrev pub refusal_in : Mail W O → Option Refusal
  refusal_in mail = refusal_by mail.closed mail.capacity (accepted_in mail) mail.handed

  abbrev pub resize_refusal_in : Mail W O → ℕ → Option Refusal
  resize_refusal_in mail n = resize_refusal_by mail.closed (accepted_in mail) mail.handed n

  abbrev pub status_of_place : Option (Place W O) → Status W
  status_of_place None = Unknown
  status_of_place (Some place) = status_by (Some place.work) place.taken place.kept

  abbrev pub status_in : Mail W O → ℕ → Status W
  status_in mail ticket =
      if nat_lt ticket mail.handed then Settled else status_of_place (slice_get mail.outstanding (ticket - mail.handed))

  -- where a ticket of a client stands, if there is such a client
  abbrev pub standing_at : List (Mail W O) → ℕ → ℕ → Option (Status W)
  standing_at mails client ticket = option_map (λ mail. status_in mail ticket) (slice_get mails client)

  abbrev pub open_of_place : Option (Place W O) → Option W
  open_of_place None = None
  open_of_place (Some place) = if is_some place.kept then None else Some place.work

  -- the work of a ticket, if that was accepted and is neither kept nor handed
  abbrev pub open_in : Mail W O → ℕ → Option W
  open_in mail ticket =
      if nat_lt ticket mail.handed then None else open_of_place (slice_get mail.outstanding (ticket - mail.handed))

  -- the outcome that is kept for a place, if any
  abbrev pub kept_of_place : Option (Place W O) → Option O
  kept_of_place None = None
  kept_of_place (Some place) = place.kept

  -- the outcome to hand out next, if it is kept
  abbrev pub next_in : Mail W O → Option O
  next_in mail = kept_of_place (slice_get mail.outstanding 0)

  abbrev pub with_request : W → Bool → Mail W O → Mail W O
  with_request work taken mail = record {
    capacity = mail.capacity;
    closed = mail.closed;
    handed = mail.handed;
    outstanding = mail.outstanding ++ record { work = work; taken = taken; kept = None } ∷ [];
  }

  abbrev pub with_places : (Place W O → Place W O) → ℕ → Mail W O → Mail W O
  with_places f ticket mail = record {
    capacity = mail.capacity;
    closed = mail.closed;
    handed = mail.handed;
    outstanding = changed_at f mail.outstanding (ticket - mail.handed);
  }

  abbrev pub with_taken : ℕ → Mail W O → Mail W O
  with_taken = with_places (λ place. record { work = place.work; taken = true; kept = place.kept })

  abbrev pub with_kept : O → ℕ → Mail W O → Mail W O
  with_kept outcome = with_places (λ place. record { work = place.work; taken = place.taken; kept = Some outcome })

  abbrev pub with_handed : Mail W O → Mail W O
  with_handed mail = record {
    capacity = mail.capacity;
    closed = mail.closed;
    handed = mail.handed + 1;
    outstanding = drop 1 mail.outstanding;
  }

  abbrev pub with_close : Mail W O → Mail W O
  with_close mail = record { capacity = mail.capacity; closed = true; handed = mail.handed; outstanding = mail.outstanding }

  abbrev pub with_capacity : ℕ → Mail W O → Mail W O
  with_capacity n mail = record { capacity = n; closed = mail.closed; handed = mail.handed; outstanding = mail.outstanding }
