-- Internal but for `Lane`, `lane_in` and `AreBooked`: what the lanes still owe their clients, and what handing it out
-- keeps.
use Rattle.std.specs.Prelude.{◌≡◌, ◌+◌, ℕ, Bool, true, false, if◌then◌else◌, List, [], ◌∷◌, ◌++◌, Option, Some, None, length, drop, map, bytes_eq}
use Rattle.std.specs.List.{flat_map}
use Rattle.dmn_plan.specs.Request.{Request, request_result}
use Rattle.feel_value.specs.declared.feel.Outcome.{Outcome}
use Rattle.lanes.specs.Ends.{ClientEnd, SettledEnd}
use Rattle.lanes.specs.Books.{work_of}
use Rattle.lanes.specs.Clients.{put_of, mail_of}
use Rattle.lanes.specs.Rest.{put_in, mail_in}
use Rattle.desk_requests.specs.Line.{Line}
use Rattle.desk_lines.specs.Lines.{ended}
use Rattle.desk_wire.specs.Reading.{Reading}
use Rattle.desk_wire.specs.Reports.{Report, Of, Reply}
use Rattle.desk_wire.specs.declared.report.Told.{Told}
use Rattle.desk_wire.specs.declared.report.Told.TheVariants as told
use Rattle.desk_serving.specs.Script.{same_client, of_client, texts_of}
use Rattle.desk_requests.specs.State.{requests, is_closed, names_with_lanes, in_force, AreDistinct}
use Rattle.desk_requests.specs.Due.{answers}

-- a client's lane as the front sees it: the requests that were put, how many results were handed out, and whether it is closed
pub record Lane : Type 0 where
  pub put : List Request
  pub handed : ℕ
  pub closed : Bool

abbrev pub lane_of : ClientEnd Request Outcome → Lane
lane_of client = record { put = map work_of (put_of client); handed = (mail_of client).handed; closed = (mail_of client).closed }

-- the same, once all ends came together
abbrev pub lane_in : SettledEnd Request Outcome → Lane
lane_in end = record { put = map work_of (put_in end); handed = (mail_in end).handed; closed = (mail_in end).closed }

-- what is owed to a client: the reply to its request with this ticket, or what is told of its line with this number
pub data Owed : Type 0 where
  ToRequest : (ticket : ℕ) → Request → Owed
  ToLine : (line : ℕ) → Told → Owed

-- a client's lane with what waits in it: the requests that were put, whether the client is closed, and what is owed to it, in order
pub record Queue : Type 0 where
  pub put : List Request
  pub closed : Bool
  pub owed : List Owed

-- the replies to these requests, the first of which has this ticket
abbrev pub replies : ℕ → List Request → List Owed
replies ticket [] = []
replies ticket (request ∷ requests) = ToRequest ticket request ∷ replies (ticket + 1) requests

-- a lane in which nothing waits owes the replies to what was put and not handed out
abbrev pub as_queue : Lane → Queue
as_queue lane = record { put = lane.put; closed = lane.closed; owed = replies lane.handed (drop lane.handed lane.put) }

abbrev pub queue_of : ClientEnd Request Outcome → Queue
queue_of client = as_queue (lane_of client)

abbrev pub queue_in : SettledEnd Request Outcome → Queue
queue_in end = as_queue (lane_in end)

abbrev pub owed_report : List ℕ → Owed → Report
owed_report name (ToRequest ticket request) = Reply name ticket (request_result request)
owed_report name (ToLine line what) = Of name line what

-- what a lane still owes its client
abbrev pub due : List ℕ → Queue → List Report
due name lane = map (λ owed. owed_report name owed) lane.owed

-- what is owed to a name, where lane by lane these are the names
abbrev pub due_to_name : List ℕ → List (List ℕ) → List Queue → List Report
due_to_name m [] lanes = []
due_to_name m (n ∷ names) [] = []
due_to_name m (n ∷ names) (lane ∷ lanes) = if bytes_eq n m then due n lane else due_to_name m names lanes

abbrev pub due_to : Option (List ℕ) → List (List ℕ) → List Queue → List Report
due_to None names lanes = []
due_to (Some m) names lanes = due_to_name m names lanes

-- the lanes but for what they owe
abbrev pub unhanded : List Queue → List Lane
unhanded [] = []
unhanded (lane ∷ lanes) = (record { put = lane.put; handed = 0; closed = lane.closed }) ∷ unhanded lanes

-- these reports are what was handed out of what was owed
pub record AreHanded (names : List (List ℕ)) (old new : List Queue) (more : List Report) : Type 0 where
  pub lanes : unhanded new ≡ unhanded old
  pub owed : (who : Option (List ℕ)) → of_client who more ++ due_to who names new ≡ due_to who names old

-- the same, in lines at the end of the text
pub record Hands (names : List (List ℕ)) (old new : List Queue) (text text' : List ℕ) : Type 0 where
  pub more : List Report
  pub is : text' ≡ text ++ flat_map ended (texts_of more)
  pub handed : AreHanded names old new more

-- What was owed was handed out in part, and then a line came that is answered with this report: it stands said, or its lane
-- owes it, behind all that was owed before.
pub record HandsThen (names : List (List ℕ)) (old new : List Queue) (report : Report) (text text' : List ℕ) : Type 0 where
  pub more : List Report
  pub is : text' ≡ text ++ flat_map ended (texts_of more)
  pub owed : (who : Option (List ℕ)) → of_client who more ++ due_to who names new ≡ due_to who names old ++ of_client who (report ∷ [])

-- these reports are what one lane handed out
pub record AreOwn (name : List ℕ) (old new : Queue) (more : List Report) : Type 0 where
  pub put : new.put ≡ old.put
  pub closed : new.closed ≡ old.closed
  pub own : of_client (Some name) more ++ due name new ≡ due name old
  pub others : (who : Option (List ℕ)) → same_client (Some name) who ≡ false → of_client who more ≡ []

-- the same, in lines at the end of the text
pub record HandsOwn (name : List ℕ) (old new : Queue) (text text' : List ℕ) : Type 0 where
  pub more : List Report
  pub is : text' ≡ text ++ flat_map ended (texts_of more)
  pub handed : AreOwn name old new more

-- the reports are the first of what one lane owed
pub record AreFirstOwn (name : List ℕ) (lane : Queue) (more : List Report) : Type 0 where
  pub rest : List Report
  pub own : of_client (Some name) more ++ rest ≡ due name lane
  pub others : (who : Option (List ℕ)) → same_client (Some name) who ≡ false → of_client who more ≡ []

-- the reports are some of what was owed, the first of each client's
abbrev pub AreFirst : List (List ℕ) → List Queue → List Report → Type 0
AreFirst names lanes more = (who : Option (List ℕ)) → (rest : List Report) × (of_client who more ++ rest ≡ due_to who names lanes)

-- lane by lane: its client's requests, and whether the client is closed; the lanes without a name are new
abbrev pub AreBooked : List (List ℕ) → List Lane → List (Reading Line) → Type 0
AreBooked [] [] read = Unit {0}
AreBooked [] (lane ∷ lanes) read = (lane.put ≡ []) × (lane.closed ≡ false) × AreBooked [] lanes read
AreBooked (n ∷ names) [] read = ⊥
AreBooked (n ∷ names) (lane ∷ lanes) read = (lane.put ≡ requests n read) × (lane.closed ≡ is_closed n read) × AreBooked names lanes read

-- The front has answered these lines, but for what the lanes owe. Lane by lane it has the names that have lanes by the lines
-- `named`, and this model is in force.
pub record Stands (named earlier : List (Reading Line)) (known : List (List ℕ)) (force : Option (List ℕ)) (lanes : List Queue) (said : List Report) : Type 0 where
  pub names : known ≡ names_with_lanes (length lanes) named
  pub distinct : AreDistinct known
  pub model : force ≡ in_force earlier
  pub booked : AreBooked known (unhanded lanes) earlier
  pub owed : (who : Option (List ℕ)) → of_client who said ++ due_to who known lanes ≡ of_client who (answers (length lanes) earlier)

-- the lane with one more request
abbrev pub with_put : Queue → Request → Queue
with_put lane request = record { put = lane.put ++ request ∷ []; closed = lane.closed; owed = lane.owed ++ ToRequest (length lane.put) request ∷ [] }

-- whether a client is closed once this is told
abbrev pub closed_by : Told → Bool → Bool
closed_by told.Closed closed = true
closed_by what closed = closed

-- the lane once this is told
abbrev pub shut_by : Told → Queue → Queue
shut_by what lane = record { put = lane.put; closed = closed_by what lane.closed; owed = lane.owed }

-- the lane with one more line that something is told of
abbrev pub with_told : ℕ → Told → Queue → Queue
with_told line what lane = record { put = lane.put; closed = closed_by what lane.closed; owed = lane.owed ++ ToLine line what ∷ [] }

-- of this lane the first that was owed was handed out
pub record LosesFirst (first : Owed) (old new : Queue) : Type 0 where
  pub put : new.put ≡ old.put
  pub closed : new.closed ≡ old.closed
  pub owed : old.owed ≡ first ∷ new.owed

-- lane by lane: something is owed only behind a request
abbrev pub AreBehind : List Queue → Type 0
AreBehind [] = Unit {0}
AreBehind (lane ∷ lanes) = (lane.put ≡ [] → lane.owed ≡ []) × AreBehind lanes
