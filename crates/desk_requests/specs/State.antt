-- What the earlier lines say.
--
-- Each definition is over the lines read so far, the newest first: `earlier` are the lines before the one in question. A
-- client's lane and its tickets follow from these lines and the number of lanes: no worker, no schedule and no capacity of a
-- lane stands here.
use Rattle.std.specs.Prelude.{◌≡◌, ◌+◌, ℕ, Bool, false, not, ◌&&◌, ◌||◌, nat_le, if◌then◌else◌, List, [], ◌∷◌, ◌++◌, Option, Some, None, Result, Ok, Err, length, take, bytes_eq}
use Rattle.std.specs.Coded.{×_prop, Unit-prop}
use Rattle.std.proofs.Props.{props}
use Rattle.std.specs.List.{list_any}
use Rattle.serde_json.specs.Data.{Data}
use Rattle.serde_json.specs.Written.{compact_text}
use Rattle.feel_value.specs.Distinct.{is_among}
use Rattle.dmn_plan.specs.ReadModel.{read_model}
use Rattle.dmn_plan.specs.Request as plan
use Rattle.dmn_plan.specs.declared.fault.ModelFault.{ModelFault}
use Rattle.dmn_plan.specs.declared.fault.TaskFault.{TaskFault}
use Rattle.desk_wire.specs.Reading.{Reading, Says}
use Rattle.desk_requests.specs.Line.{Line, Model, Request, Close, client_of}

-- the model in force after a model line: one with a fault leaves the old one
abbrev pub newer_model : {M : Type 0} → Data → Result M ModelFault → Option (List ℕ) → Option (List ℕ)
newer_model json (Ok model) old = Some (compact_text json)
newer_model json (Err fault) old = old

abbrev pub model_after : Option (List ℕ) → Reading Line → Option (List ℕ)
model_after old (Says (Model json)) = newer_model json (read_model json) old
model_after old reading = old

-- the text of the model in force: the last that was read
abbrev pub in_force : List (Reading Line) → Option (List ℕ)
in_force [] = None
in_force (reading ∷ earlier) = model_after (in_force earlier) reading

-- the number of the line after these
abbrev pub number_after : List (Reading Line) → ℕ
number_after earlier = length earlier + 1

-- the names with one more, unless it is among them
abbrev pub with_one : List ℕ → List (List ℕ) → List (List ℕ)
with_one name names = if is_among names name then names else names ++ name ∷ []

-- a request's name counts once a model is in force
abbrev pub with_requester : Option (List ℕ) → List ℕ → List (List ℕ) → List (List ℕ)
with_requester None name names = names
with_requester (Some model) name names = with_one name names

-- the client of any other line counts, whether there is a model or not
abbrev pub with_optional : Option (List ℕ) → List (List ℕ) → List (List ℕ)
with_optional None names = names
with_optional (Some name) names = with_one name names

abbrev pub with_caller : Option (List ℕ) → Reading Line → List (List ℕ) → List (List ℕ)
with_caller model (Says (Request name service inputs)) names = with_requester model name names
with_caller model (Says line) names = with_optional (client_of line) names
with_caller model reading names = names

-- the names that ask for a lane, in the order in which they first do
abbrev pub callers : List (Reading Line) → List (List ℕ)
callers [] = []
callers (reading ∷ earlier) = with_caller (in_force earlier) reading (callers earlier)

-- the names that have one of so many lanes: lane by lane
abbrev pub names_with_lanes : ℕ → List (Reading Line) → List (List ℕ)
names_with_lanes lanes read = take lanes (callers read)

abbrev pub has_lane : ℕ → List (Reading Line) → List ℕ → Bool
has_lane lanes read name = is_among (names_with_lanes lanes read) name

abbrev pub closes : List ℕ → Reading Line → Bool
closes name (Says (Close n)) = bytes_eq n name
closes name reading = false

-- whether a client was closed by an earlier line
abbrev pub is_closed : List ℕ → List (Reading Line) → Bool
is_closed name earlier = list_any (λ reading. closes name reading) earlier

abbrev pub ok_list : Result plan.Request TaskFault → List plan.Request
ok_list (Ok request) = request ∷ []
ok_list (Err fault) = []

-- the request to a service with these inputs, if there is a model in force and it is lawful there
abbrev pub requests_under : Option (List ℕ) → List ℕ → Data → List plan.Request
requests_under None service inputs = []
requests_under (Some text) service inputs = ok_list (plan.request_of text service inputs)

-- the requests of a client with that of one more line
abbrev pub with_request_of : List ℕ → Bool → Option (List ℕ) → Reading Line → List plan.Request → List plan.Request
with_request_of name closed model (Says (Request n service inputs)) past =
    if bytes_eq n name && not closed then past ++ requests_under model service inputs else past
with_request_of name closed model reading past = past

-- the lawful requests of a client before its close, in order; a request's ticket is the number of those before it
abbrev pub requests : List ℕ → List (Reading Line) → List plan.Request
requests name [] = []
requests name (reading ∷ earlier) = with_request_of name (is_closed name earlier) (in_force earlier) reading (requests name earlier)

-- ## Names

abbrev pub AreDistinct : List (List ℕ) → Type 0
AreDistinct [] = Unit {0}
AreDistinct (n ∷ names) = (is_among names n ≡ false) × AreDistinct names

pub AreDistinct-prop : (names : List (List ℕ)) → IsProp (AreDistinct names)
AreDistinct-prop [] = Unit-prop
AreDistinct-prop (n ∷ names) = ×_prop (Prim.hlevel props) (AreDistinct-prop names)

-- the names with one more, if there is a lane for it
abbrev pub with_lane : ℕ → List ℕ → List (List ℕ) → List (List ℕ)
with_lane lanes name names = if is_among names name || nat_le lanes (length names) then names else names ++ name ∷ []
