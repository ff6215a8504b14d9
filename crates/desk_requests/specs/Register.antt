-- What stands between the lines where each is answered before the next is read.
use Rattle.std.specs.Prelude.{◌≡◌, ℕ, ◌+◌, ◌^◌, ◌%◌, Bool, true, false, ◌||◌, nat_le, if◌then◌else◌, List, [], ◌∷◌, ◌++◌, Option, Some, None, Result, Ok, length, map, option_map, slice_get, slice_set, string_bytes}
use Rattle.std.specs.Arc.{arc_value}
use Rattle.std.specs.declared.alloc.Global.{Global}
use Rattle.std.specs.declared.sync.Arc.{Arc}
use Rattle.serde_json.specs.Data.{Data}
use Rattle.feel_value.specs.Distinct.{is_among}
use Rattle.dmn_plan.specs.Request as plan
use Rattle.desk_wire.specs.Reading.{Reading, Says}
use Rattle.desk_wire.specs.ReportView.{report_view}
use Rattle.desk_wire.specs.Reports.{Report, Loaded, Faulty, Of, Reply}
use Rattle.desk_wire.specs.declared.report.Report.TheVariants as report
use Rattle.desk_wire.specs.declared.report.Told.TheVariants as told
use Rattle.desk_requests.specs.Line.{Line, Model, Request, Close, Resize}
use Rattle.desk_requests.specs.State.{in_force, is_closed, names_with_lanes, number_after, requests}
use Rattle.desk_requests.specs.Due.{line_answer}
use Rattle.desk_requests.specs.declared.decider.Due.{Due}
use Rattle.desk_requests.specs.declared.decider.Due.TheVariants as due
use Rattle.desk_requests.specs.declared.decider.Seat.{Seat}
use Rattle.desk_requests.specs.declared.register.Answer.{Answer}
use Rattle.desk_requests.specs.declared.register.Answer.TheVariants.{Told, Asked}
use Rattle.desk_requests.specs.declared.register.Client as held
use Rattle.desk_requests.specs.declared.register.Register.{Register}

-- a client that has a lane: how many of its requests were accepted, and whether it is closed
pub record Client : Type 0 where
  pub name : List ℕ
  pub accepted : ℕ
  pub closed : Bool

abbrev pub client_view : held.Client → Client
client_view client = record { name = string_bytes client.name; accepted = client.accepted; closed = client.is_closed }

abbrev pub clients_of : Register → List Client
clients_of register = map client_view register.clients.items

abbrev pub name_of : Client → List ℕ
name_of client = client.name

abbrev pub names_of : Register → List (List ℕ)
names_of register = map (λ client. string_bytes client.name) register.clients.items

-- the text of the model in force
abbrev pub force_of : Register → Option (List ℕ)
force_of register = option_map arc_value register.plan

-- a client as these lines leave it
abbrev pub client_after : List (Reading Line) → List ℕ → Client
client_after earlier name = record { name = name; accepted = length (requests name earlier); closed = is_closed name earlier }

-- the register stands as these lines leave it, where there are so many lanes
pub record StandsAfter (lanes : ℕ) (register : Register) (earlier : List (Reading Line)) : Type 0 where
  pub count : register.lanes ≡ lanes
  pub model : force_of register ≡ in_force earlier
  pub clients : clients_of register ≡ map (client_after earlier) (names_with_lanes lanes earlier)

-- the report that an answer comes to
abbrev pub answer_view : Answer → Report
answer_view (Told report) = report_view report
answer_view (Asked asked) = Reply asked.client.now asked.ticket (plan.request_result asked.task)

-- The answer is due to the line with this number after whichever lines the register stands, and then it stands after this one too.
abbrev pub Answers : Register → ℕ → Line → Answer → Register → Type 0
Answers old k line answer new =
    (lanes : ℕ) (earlier : List (Reading Line)) → StandsAfter lanes old earlier → k ≡ number_after earlier →
    (answer_view answer ≡ line_answer lanes earlier line) × StandsAfter lanes new (Says line ∷ earlier)

-- the task is that of the service with these inputs under the model in force
abbrev pub IsRequestOf : Option (List ℕ) → List ℕ → Data → plan.Request → Type 0
IsRequestOf model service inputs task = (text : List ℕ) × (model ≡ Some text) × (plan.request_of text service inputs ≡ Ok task)

abbrev pub is_on_model : Report → Bool
is_on_model (Loaded k) = true
is_on_model (Faulty k fault) = true
is_on_model report = false

abbrev pub is_on_client : Report → Bool
is_on_client (Of name k told) = true
is_on_client report = false

-- a report is that of the line's kind; where a reply is due, it is that of the line's own request
abbrev pub AsksBy : Option (List ℕ) → Line → Answer → Type 0
AsksBy model (Model json) (Told report) = is_on_model (report_view report) ≡ true
AsksBy model line (Told report) = is_on_client (report_view report) ≡ true
AsksBy model (Request name service inputs) (Asked asked) =
    (asked.client.now ≡ name) × (asked.service.now ≡ service) × IsRequestOf model service inputs asked.task
AsksBy model line (Asked asked) = ⊥

abbrev pub fresh : List ℕ → Client
fresh name = record { name = name; accepted = 0; closed = false }

-- the clients with one more, if there is a lane for it
abbrev pub with_client : ℕ → List ℕ → List Client → List Client
with_client lanes name clients =
    if is_among (map name_of clients) name || nat_le lanes (length clients) then clients else clients ++ fresh name ∷ []

-- the clients are as before
abbrev pub Keeps : Register → Register → Type 0
Keeps old new = (clients_of new ≡ clients_of old) × (new.lanes ≡ old.lanes)

-- the name asked for a lane
abbrev pub Asks : Register → List ℕ → Register → Type 0
Asks old name new = (new.plan ≡ old.plan) × (new.lanes ≡ old.lanes) × (clients_of new ≡ with_client old.lanes name (clients_of old))

-- its client has this lane, or none
abbrev pub IsSeat : Register → List ℕ → Option Seat → Type 0
IsSeat register name None = is_among (names_of register) name ≡ false
IsSeat register name (Some seat) =
    (slice_get (names_of register) seat.place ≡ Some name)
    × ((client : Client) → slice_get (clients_of register) seat.place ≡ Some client → seat.is_closed ≡ client.closed)

-- Internal from here on.

-- a reply is that of this task of a client to a service
abbrev pub AsksFor : List ℕ → List ℕ → plan.Request → Answer → Type 0
AsksFor name service task (Told report) = is_on_client (report_view report) ≡ true
AsksFor name service task (Asked asked) = (asked.client.now ≡ name) × (asked.service.now ≡ service) × (asked.task ≡ task)

-- one more request was accepted
abbrev pub with_accepted : Client → Client
with_accepted client = record { name = client.name; accepted = (client.accepted + 1) % 2 ^ 64; closed = client.closed }

abbrev pub with_closed : Client → Client
with_closed client = record { name = client.name; accepted = client.accepted; closed = true }

-- what is due to the line with this number was done, and this is its answer
abbrev pub Settles : ℕ → Due (Arc (List ℕ) Global) plan.Request → Register → Answer → Register → Type 0
Settles k (due.Loaded plan) old answer new =
    (answer ≡ Told (report.Loaded k)) × (force_of new ≡ Some (arc_value plan)) × (new.clients ≡ old.clients) × (new.lanes ≡ old.lanes)
Settles k (due.Told said) old answer new = (answer ≡ Told said) × (new ≡ old)
Settles k (due.Refused name seat why) old answer new = (answer ≡ Told (report.Of name k (told.Refused why))) × (new ≡ old)
Settles k (due.Asked name service seat task) old answer new =
    (new.plan ≡ old.plan) × (new.lanes ≡ old.lanes)
    × ((client : Client) → slice_get (clients_of old) seat.place ≡ Some client → answer_view answer ≡ Reply name.now client.accepted (plan.request_result task))
    × ((client : Client) → slice_get (clients_of old) seat.place ≡ Some client → clients_of new ≡ slice_set (clients_of old) seat.place (with_accepted client))
    × AsksFor name.now service.now task answer
Settles k (due.Closed name seat) old answer new =
    (answer ≡ Told (report.Of name k told.Closed)) × (new.plan ≡ old.plan) × (new.lanes ≡ old.lanes)
    × ((client : Client) → slice_get (clients_of old) seat.place ≡ Some client → clients_of new ≡ slice_set (clients_of old) seat.place (with_closed client))
Settles k (due.Resized name seat n) old answer new = (answer ≡ Told (report.Of name k (told.Resized n))) × (new ≡ old)
