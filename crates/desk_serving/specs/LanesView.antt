-- Internal: the lanes as they are held.
use Rattle.std.specs.Prelude.{◌≡◌, ℕ, zero, suc, false, List, [], ◌∷◌, Option, Some, None, length, map, slice_get, string_bytes}
use Rattle.dmn_plan.specs.Request.{Request, request_result}
use Rattle.feel_value.specs.declared.feel.Outcome.{Outcome}
use Rattle.lanes.specs.Ends.{ClientEnd}
use Rattle.lanes.specs.Clients.{came_to, client_links, mail_of}
use Rattle.lanes.specs.Links.{Link}
use Rattle.lanes.specs.Polls.{Polls}
use Rattle.feel_value.specs.Distinct.{is_among}
use Rattle.desk_requests.specs.State.{with_lane}
use Rattle.desk_requests.specs.declared.decider.Seat.{Seat}
use Rattle.desk_serving.specs.Owed.{Queue, queue_of}
use Rattle.desk_serving.specs.Waits.{with_waits}
use Rattle.desk_serving.specs.declared.client_lane.ClientLane.{ClientLane}
use Rattle.desk_serving.specs.declared.named_lanes.Lanes.{Lanes}
use Rattle.model_marks.specs.declared.mark.Catalog.{Ghosts}

module _ {C : Type 0} {G : Ghosts C} where
  abbrev pub client_held : ClientLane C G → ClientEnd Request Outcome
  client_held held = held.client

  -- a client's lane: what waits stands behind what is in the mailbox
  abbrev pub lane_held : ClientLane C G → Queue
  lane_held held = with_waits (queue_of held.client) held.waits.items

  abbrev pub links_held : ClientLane C G → List Link
  links_held held = client_links held.client

  -- nothing waits in these lanes
  abbrev pub AreClear : List (ClientLane C G) → Type 0
  AreClear [] = Unit {0}
  AreClear (held ∷ lanes) = (held.waits.items ≡ []) × AreClear lanes

  -- a client took in the answers that it found, and then handed out its next result, unless that had not come
  abbrev pub IsPolled : ClientLane C G → ClientLane C G → Type 0
  IsPolled old new =
      (reply : Option (ℕ × Outcome))
      × Polls (λ (request : Request). request) request_result (came_to old.client) (came_to new.client) (mail_of old.client) (mail_of new.client) reply

  -- each of the first so many clients did, and the others are as before
  abbrev pub ArePolled : ℕ → List (ClientLane C G) → List (ClientLane C G) → Type 0
  ArePolled zero old new = new ≡ old
  ArePolled (suc n) (client ∷ old) (client' ∷ new) = IsPolled client client' × ArePolled n old new
  ArePolled (suc n) old new = ⊥

module _ {C : Type 0} {G : Ghosts C} where
  abbrev pub names_in : Lanes C G → List (List ℕ)
  names_in lanes = map string_bytes lanes.names.items

  abbrev pub lanes_in : Lanes C G → List Queue
  lanes_in lanes = map lane_held lanes.clients.items

  -- which ends the lanes have
  abbrev pub links_in : Lanes C G → List (List Link)
  links_in lanes = map links_held lanes.clients.items

  abbrev pub NothingWaits : Lanes C G → Type 0
  NothingWaits lanes = AreClear lanes.clients.items

  -- the lane that a name has, or gets; or all lanes have other names
  abbrev pub IsSeatIn : Lanes C G → List ℕ → Option Seat → Type 0
  IsSeatIn lanes name None = (with_lane (length (lanes_in lanes)) name (names_in lanes) ≡ names_in lanes) × (is_among (names_in lanes) name ≡ false)
  IsSeatIn lanes name (Some seat) =
      (slice_get (with_lane (length (lanes_in lanes)) name (names_in lanes)) seat.place ≡ Some name)
      × ((lane : Queue) → slice_get (lanes_in lanes) seat.place ≡ Some lane → seat.is_closed ≡ lane.closed)
