-- What a line is answered with, after the lines before it.
--
-- A client's answers follow from the earlier lines, the newest first, and the number of lanes.
use Rattle.std.specs.Prelude.{ℕ, Bool, true, false, List, [], ◌∷◌, ◌++◌, Option, Some, None, Result, Ok, Err, length}
use Rattle.serde_json.specs.Data.{Data}
use Rattle.box_core.specs.Mail.{is_no_capacity}
use Rattle.dmn_plan.specs.ReadModel.{read_model}
use Rattle.dmn_plan.specs.Request as plan
use Rattle.dmn_plan.specs.declared.fault.ModelFault.{ModelFault}
use Rattle.dmn_plan.specs.declared.fault.TaskFault.{TaskFault}
use Rattle.desk_wire.specs.Reading.{Reading, Blank, Long, Syntax, Shape, Says}
use Rattle.desk_wire.specs.Reports.{Report, Loaded, Faulty, Refused, Of, Reply}
use Rattle.desk_wire.specs.Words.{fault_word, task_fault_word}
use Rattle.desk_wire.specs.declared.report.Told.TheVariants as told
use Rattle.desk_wire.specs.declared.word.Word.TheVariants as word
use Rattle.desk_requests.specs.Line.{Line, Model, Request, Close, Resize}
use Rattle.desk_requests.specs.State.{has_lane, in_force, is_closed, number_after, requests}

-- a model that is read, or its fault
abbrev pub model_answer : {M : Type 0} → ℕ → Result M ModelFault → Report
model_answer k (Ok model) = Loaded k
model_answer k (Err fault) = Faulty k (fault_word fault)

-- to a request that has a lane: why there is no such task, that the client is closed, or the reply
abbrev pub task_answer : ℕ → List ℕ → Bool → ℕ → Result plan.Request TaskFault → Report
task_answer k name closed ticket (Err fault) = Of name k (told.Refused (task_fault_word fault))
task_answer k name true ticket (Ok request) = Of name k (told.Refused word.Closed)
task_answer k name false ticket (Ok request) = Reply name ticket (plan.request_result request)

-- to a request: the first refusal that applies, or the reply
abbrev pub request_answer : ℕ → List ℕ → Option (List ℕ) → Bool → Bool → ℕ → List ℕ → Data → Report
request_answer k name None lane closed ticket service inputs = Of name k (told.Refused word.Model)
request_answer k name (Some text) false closed ticket service inputs = Of name k (told.Refused word.Clients)
request_answer k name (Some text) true closed ticket service inputs = task_answer k name closed ticket (plan.request_of text service inputs)

-- to a close: the first refusal that applies, or the report
abbrev pub close_answer : ℕ → List ℕ → Bool → Bool → Report
close_answer k name false closed = Of name k (told.Refused word.Clients)
close_answer k name true true = Of name k (told.Refused word.Closed)
close_answer k name true false = Of name k told.Closed

-- to a resize of an open client
abbrev pub capacity_answer : ℕ → List ℕ → ℕ → Bool → Report
capacity_answer k name n true = Of name k (told.Refused word.Capacity)
capacity_answer k name n false = Of name k (told.Resized n)

-- to a resize: the first refusal that applies, or the report; no request is outstanding then
abbrev pub resize_answer : ℕ → List ℕ → ℕ → Bool → Bool → Report
resize_answer k name n false closed = Of name k (told.Refused word.Clients)
resize_answer k name n true true = Of name k (told.Refused word.Closed)
resize_answer k name n true false = capacity_answer k name n (is_no_capacity n)

abbrev pub line_answer : ℕ → List (Reading Line) → Line → Report
line_answer lanes earlier (Model json) = model_answer (number_after earlier) (read_model json)
line_answer lanes earlier (Request name service inputs) =
    request_answer (number_after earlier) name (in_force earlier) (has_lane lanes (Says (Request name service inputs) ∷ earlier) name)
    (is_closed name earlier) (length (requests name earlier)) service inputs
line_answer lanes earlier (Close name) =
    close_answer (number_after earlier) name (has_lane lanes (Says (Close name) ∷ earlier) name) (is_closed name earlier)
line_answer lanes earlier (Resize name n) =
    resize_answer (number_after earlier) name n (has_lane lanes (Says (Resize name n) ∷ earlier) name) (is_closed name earlier)

-- what a line is answered with, where there are so many lanes; a blank line has no answer
abbrev pub answer : ℕ → List (Reading Line) → Reading Line → List Report
answer lanes earlier Blank = []
answer lanes earlier Long = Refused (number_after earlier) word.Long ∷ []
answer lanes earlier Syntax = Refused (number_after earlier) word.Syntax ∷ []
answer lanes earlier Shape = Refused (number_after earlier) word.Shape ∷ []
answer lanes earlier (Says line) = line_answer lanes earlier line ∷ []

-- the answers to all these lines, in the order of the lines
abbrev pub answers : ℕ → List (Reading Line) → List Report
answers lanes [] = []
answers lanes (reading ∷ earlier) = answers lanes earlier ++ answer lanes earlier reading
