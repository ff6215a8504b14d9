-- What `serve` comes to.
use Rattle.std.specs.Prelude.{◌≡◌, ◌⊎◌, ℕ, All, Contains, List, length, map, Some, None}
use Rattle.box_core.specs.Mail.{accepted_in, open_in}
use Rattle.dmn_plan.specs.Request.{Request}
use Rattle.feel_value.specs.declared.feel.Outcome.{Outcome}
use Rattle.lanes.specs.Ends.{SettledEnd}
use Rattle.lanes.specs.Rest.{left_in, mail_in}
use Rattle.desk_serving.specs.Owed.{AreBooked, Queue, lane_in, queue_in}
use Rattle.desk_serving.specs.Script.{Served}
use Rattle.desk_requests.specs.State.{names_with_lanes}

-- each accepted request was handed its result
abbrev pub IsWhole : SettledEnd Request Outcome → Type 0
IsWhole end = accepted_in (mail_in end) ≡ (mail_in end).handed

-- The output is served, and these are the ends of the lanes, as many as there are lanes: each is whole, and has just the
-- requests of its client that were accepted, in order; the lanes that no client has are new.
pub record ServedBy (lanes : ℕ) (ends : List (SettledEnd Request Outcome)) (lines output : List (List ℕ)) : Type 0 where
  pub served : Served lanes lines output
  pub each : length ends ≡ lanes
  pub booked : AreBooked (names_with_lanes lanes served.readings) (map (λ end. lane_in end) ends) served.readings
  pub whole : All IsWhole ends

-- Internal from here on: no public contract cites these words.

-- each request without an answer is left as a job, and each job that is left is for a request that is answered or its own
pub record IsReady (end : SettledEnd Request Outcome) : Type 0 where
  pub all : (ticket : ℕ) (work : Request) → open_in (mail_in end) ticket ≡ Some work → Contains (left_in end) (record { ticket = ticket; work = work })
  pub right : All (λ job. (open_in (mail_in end) job.ticket ≡ Some job.work) ⊎ (open_in (mail_in end) job.ticket ≡ None)) (left_in end)

-- no request is without an answer
abbrev pub IsRun : SettledEnd Request Outcome → Type 0
IsRun end = (ticket : ℕ) → open_in (mail_in end) ticket ≡ None

abbrev pub ends_lanes : List (SettledEnd Request Outcome) → List Queue
ends_lanes ends = map (λ end. queue_in end) ends
