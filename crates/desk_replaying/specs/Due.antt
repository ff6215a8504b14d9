-- What is due to a line after the lines before it.
use Rattle.std.specs.Prelude.{◌≡◌, ◌⊎◌, ℕ, ◌+◌, List, length, Option, Some, None, Result, Ok, Err, bytes_eq, unwrap_or}
use Rattle.std.specs.List.{position}
use Rattle.serde_json.specs.Data.{Data}
use Rattle.serde_json.specs.Written.{compact_text}
use Rattle.box_core.specs.History as broker
use Rattle.box_core.specs.Table.{Reports}
use Rattle.dmn_plan.specs.ReadModel.{read_model}
use Rattle.dmn_plan.specs.Request.{Request, request_of, request_result}
use Rattle.dmn_plan.specs.declared.fault.ModelFault.{ModelFault}
use Rattle.dmn_plan.specs.declared.fault.TaskFault.{TaskFault}
use Rattle.feel_value.specs.declared.feel.Outcome.{Outcome}
use Rattle.desk_replaying.specs.Line.{Line, Model, Open, Submit, Take, Answer, AnswerWith, Release, Close, Resize, Reads}
use Rattle.desk_wire.specs.Reading.{Reading, Blank, Long, Syntax, Shape, Says}
use Rattle.desk_wire.specs.Words.{task_fault_word}
use Rattle.desk_replaying.specs.State.{Deed, Skipped, Loaded, Faulty, Asked, Refused, Turn, history, opened, in_force, taken_work}
use Rattle.desk_wire.specs.declared.word.Word.{Word}
use Rattle.desk_wire.specs.declared.word.Word.TheVariants as word

-- the number of an opened name's client
abbrev pub number_of : List (List ℕ) → List ℕ → Option ℕ
number_of names name = position (λ opened. bytes_eq opened name) names

-- the same; the first number that isn't given yet for a name that was never opened
abbrev pub client_of : List (List ℕ) → List ℕ → ℕ
client_of names name = unwrap_or (number_of names name) (length names)

abbrev pub or_refusal : Result Request TaskFault → Result Request Word
or_refusal (Ok request) = Ok request
or_refusal (Err why) = Err (task_fault_word why)

-- the request to a service with these inputs under the model in force, or why there is none
abbrev pub request_under : Option (List ℕ) → List ℕ → Data → Result Request Word
request_under None service inputs = Err word.Model
request_under (Some text) service inputs = or_refusal (request_of text service inputs)

-- what is due: a model is put in force, a model's fault is told, the front refuses, or the broker is asked
pub data Due : Type 0 where
  Loads : (text : List ℕ) → Due
  Faults : (fault : ModelFault) → Due
  Refuses : (why : Word) → Due
  Asks : (event : broker.Event Request) → Due

abbrev pub asks_with : Result Request Word → (Request → broker.Event Request) → Due
asks_with (Ok request) event = Asks (event request)
asks_with (Err why) event = Refuses why

-- a model without a fault is put in force by its compact text
abbrev pub due_to_model : {M : Type 0} → Data → Result M ModelFault → Due
due_to_model json (Ok model) = Loads (compact_text json)
due_to_model json (Err fault) = Faults fault

-- a name is opened once
abbrev pub due_to_open : Option ℕ → ℕ → Due
due_to_open (Some client) capacity = Refuses word.Present
due_to_open None capacity = Asks (broker.AddClient capacity)

-- the work that was taken answers
abbrev pub due_to_work : ℕ → ℕ → Option Request → Due
due_to_work client ticket None = Refuses word.Strange
due_to_work client ticket (Some work) = Asks (broker.Answer client (record { ticket = ticket; work = work }))

abbrev pub due_to_answer : broker.History Request Outcome → ℕ → Option ℕ → Due
due_to_answer past ticket None = Refuses word.NoClient
due_to_answer past ticket (Some client) = due_to_work client ticket (taken_work past client ticket)

-- what is due to a line, by the names that were opened, the model in force and what the broker reported before it
abbrev pub due_to : List (List ℕ) → Option (List ℕ) → broker.History Request Outcome → Line → Due
due_to names model past (Model json) = due_to_model json (read_model json)
due_to names model past (Open name n) = due_to_open (number_of names name) n
due_to names model past (Submit name service inputs) =
    asks_with (request_under model service inputs) (λ request. broker.Submit (client_of names name) request)
due_to names model past (Take name t) = Asks (broker.Take (client_of names name) t)
due_to names model past (Answer name t) = due_to_answer past t (number_of names name)
due_to names model past (AnswerWith name t service inputs) =
    asks_with (request_under model service inputs) (λ request. broker.Answer (client_of names name) (record { ticket = t; work = request }))
due_to names model past (Release name) = Asks (broker.Release (client_of names name))
due_to names model past (Close name) = Asks (broker.Close (client_of names name))
due_to names model past (Resize name n) = Asks (broker.Resize (client_of names name) n)

-- what is due is done: the broker's report is one that its table has after the history
abbrev pub IsDone : broker.History Request Outcome → Due → Deed → Type 0
IsDone past (Loads text) deed = deed ≡ Loaded text
IsDone past (Faults fault) deed = deed ≡ Faulty fault
IsDone past (Refuses why) deed = deed ≡ Refused why
IsDone past (Asks event) deed =
    (report : broker.Report Request Outcome) × Reports (λ request. request) request_result past event report × (deed ≡ Asked event report)

-- On these lines the front may tell out of memory in place of what is due, and then nothing is done. On lines that open,
-- take or resize the broker's own report may.
abbrev pub MayLackMemory : Line → Type 0
MayLackMemory (Model json) = Unit {0}
MayLackMemory (Submit name service inputs) = Unit {0}
MayLackMemory (Answer name t) = Unit {0}
MayLackMemory (AnswerWith name t service inputs) = Unit {0}
MayLackMemory line = ⊥

-- the deed is due to the line after these turns
abbrev pub IsDue : List Turn → Line → Deed → Type 0
IsDue before says deed =
    IsDone (history before) (due_to (opened before) (in_force before) (history before) says) deed
    ⊎ (MayLackMemory says × (deed ≡ Refused word.Memory))

-- the same, as the line is read
abbrev pub IsDueAs : List Turn → Reading Line → Deed → Type 0
IsDueAs before Blank deed = deed ≡ Skipped
IsDueAs before Long deed = deed ≡ Refused word.Long
IsDueAs before Syntax deed = deed ≡ Refused word.Syntax
IsDueAs before Shape deed = deed ≡ Refused word.Shape
IsDueAs before (Says line) deed = IsDue before line deed

-- the turn is that of the line after these
pub record Follows (before : List Turn) (turn : Turn) : Type 0 where
  pub number : turn.number ≡ length before + 1
  pub reads : Reads turn.line turn.reading
  pub due : IsDueAs before turn.reading turn.deed
