-- What is due to a line, by what stands between the lines, and what the line makes of that.
use Rattle.std.specs.Prelude.{◌≡◌, ◌⊎◌, ℕ, Bool, true, false, List, Option, Some, None, Result, Ok, Err}
use denote.Ref.{Bor}
use Rattle.serde_json.specs.Data.{Data}
use Rattle.serde_json.specs.Written.{compact_text}
use Rattle.box_core.specs.Mail.{is_no_capacity}
use Rattle.dmn_plan.specs.ReadModel.{read_model}
use Rattle.dmn_plan.specs.Request as plan
use Rattle.dmn_plan.specs.declared.fault.ModelFault.{ModelFault}
use Rattle.dmn_plan.specs.declared.fault.TaskFault.{TaskFault}
use Rattle.desk_wire.specs.ReportView.{report_view}
use Rattle.desk_wire.specs.Reports.{Report, Faulty, Of}
use Rattle.desk_wire.specs.Words.{fault_word, task_fault_word}
use Rattle.desk_wire.specs.declared.report.Report as held
use Rattle.desk_wire.specs.declared.report.Told.TheVariants as told
use Rattle.desk_wire.specs.declared.word.Word.{Word}
use Rattle.desk_wire.specs.declared.word.Word.TheVariants as word
use Rattle.desk_requests.specs.Line.{Line, Model, Request, Close, Resize}
use Rattle.desk_requests.specs.declared.decider.Due.{Due}
use Rattle.desk_requests.specs.declared.decider.Due.TheVariants as due
use Rattle.desk_requests.specs.declared.decider.Seat.{Seat}

-- what is kept of a model, or the word of its fault
abbrev pub IsLoadedOf : {P M : Type 0} → (P → List ℕ) → Data → Result M ModelFault → Result P Word → Type 0
IsLoadedOf text_of json (Ok model) (Ok plan) = text_of plan ≡ compact_text json
IsLoadedOf text_of json (Err fault) (Err why) = why ≡ fault_word fault
IsLoadedOf text_of json read loaded = ⊥

-- what is made of the request to a service with these inputs under the model in force, or why there is none
abbrev pub IsMadeOf : {W : Type 0} → (W → plan.Request → Type 0) → Option (List ℕ) → List ℕ → Data → Option (Result W TaskFault) → Type 0
IsMadeOf IsMade model service inputs None = model ≡ None
IsMadeOf IsMade model service inputs (Some (Ok made)) =
    (text : List ℕ) × (model ≡ Some text) × (q : plan.Request) × (plan.request_of text service inputs ≡ Ok q) × IsMade made q
IsMadeOf IsMade model service inputs (Some (Err fault)) = (text : List ℕ) × (model ≡ Some text) × (plan.request_of text service inputs ≡ Err fault)

-- ## What is due

module _ {P W : Type 0} where
  -- this report
  abbrev pub IsTold : Report → Due P W → Type 0
  IsTold report what = (said : held.Report) × (what ≡ due.Told said) × (report_view said ≡ report)

  -- the model in force behind the line
  abbrev pub IsLoaded : (P → List ℕ) → Data → Due P W → Type 0
  IsLoaded text_of json what = (plan : P) × (what ≡ due.Loaded plan) × (text_of plan ≡ compact_text json)

  -- to a model that is read, or has a fault
  abbrev pub IsModelDue : {M : Type 0} → (P → List ℕ) → ℕ → Data → Result M ModelFault → Due P W → Type 0
  IsModelDue text_of k json (Ok model) what = IsLoaded text_of json what
  IsModelDue text_of k json (Err fault) what = IsTold (Faulty k (fault_word fault)) what

  -- the refusal of a client that has this lane
  abbrev pub IsRefused : List ℕ → Seat → Word → Due P W → Type 0
  IsRefused name seat why what = (client : Bor (List ℕ)) × (what ≡ due.Refused client seat why) × (client.now ≡ name)

  -- the reply to a request
  abbrev pub IsAsked : (W → plan.Request → Type 0) → List ℕ → List ℕ → Seat → plan.Request → Due P W → Type 0
  IsAsked IsMade name service seat q what =
      (client : Bor (List ℕ)) × (asked : Bor (List ℕ)) × (made : W) × (what ≡ due.Asked client asked seat made) × (client.now ≡ name) × (asked.now ≡ service) × IsMade made q

  abbrev pub IsClosed : List ℕ → Seat → Due P W → Type 0
  IsClosed name seat what = (client : Bor (List ℕ)) × (what ≡ due.Closed client seat) × (client.now ≡ name)

  abbrev pub IsResized : List ℕ → Seat → ℕ → Due P W → Type 0
  IsResized name seat n what = (client : Bor (List ℕ)) × (what ≡ due.Resized client seat n) × (client.now ≡ name)

  -- to a request for which there is a task: that its client is closed, or the reply
  abbrev pub IsTaskDue : (W → plan.Request → Type 0) → List ℕ → List ℕ → Seat → Bool → plan.Request → Due P W → Type 0
  IsTaskDue IsMade name service seat true q what = IsRefused name seat word.Closed what
  IsTaskDue IsMade name service seat false q what = IsAsked IsMade name service seat q what

  -- to a request, by the lane of its client and by what comes of it
  abbrev pub IsRequestDue : (W → plan.Request → Type 0) → ℕ → List ℕ → List ℕ → Option Seat → Result plan.Request TaskFault → Due P W → Type 0
  IsRequestDue IsMade k name service None r what = IsTold (Of name k (told.Refused word.Clients)) what
  IsRequestDue IsMade k name service (Some seat) (Err fault) what = IsRefused name seat (task_fault_word fault) what
  IsRequestDue IsMade k name service (Some seat) (Ok q) what = IsTaskDue IsMade name service seat seat.is_closed q what

  -- to a close of a client that has this lane
  abbrev pub IsOpenCloseDue : List ℕ → Seat → Bool → Due P W → Type 0
  IsOpenCloseDue name seat true what = IsRefused name seat word.Closed what
  IsOpenCloseDue name seat false what = IsClosed name seat what

  abbrev pub IsCloseDue : ℕ → List ℕ → Option Seat → Due P W → Type 0
  IsCloseDue k name None what = IsTold (Of name k (told.Refused word.Clients)) what
  IsCloseDue k name (Some seat) what = IsOpenCloseDue name seat seat.is_closed what

  -- to a resize of a client that has this lane, where it is closed, or this is no capacity
  abbrev pub IsOpenResizeDue : List ℕ → Seat → ℕ → (closed none : Bool) → Due P W → Type 0
  IsOpenResizeDue name seat n true none what = IsRefused name seat word.Closed what
  IsOpenResizeDue name seat n false true what = IsRefused name seat word.Capacity what
  IsOpenResizeDue name seat n false false what = IsResized name seat n what

  abbrev pub IsResizeDue : ℕ → List ℕ → ℕ → Option Seat → Due P W → Type 0
  IsResizeDue k name n None what = IsTold (Of name k (told.Refused word.Clients)) what
  IsResizeDue k name n (Some seat) what = IsOpenResizeDue name seat n seat.is_closed (is_no_capacity n) what

-- ## What is decided

-- the name asked for a lane, and its client has this one or none
abbrev pub Seats : {D : Type 0} → (Asks : D → List ℕ → D → Type 0) → (IsSeat : D → List ℕ → Option Seat → Type 0) → D → List ℕ → Option Seat → D → Type 0
Seats Asks IsSeat old name seat new = Asks old name new × IsSeat new name seat

-- to a request without a model in force, or under the one that is
abbrev pub DecidesRequest : {D P W : Type 0} → (Asks : D → List ℕ → D → Type 0) → (IsSeat : D → List ℕ → Option Seat → Type 0) → (IsMade : W → plan.Request → Type 0)
    → Option (List ℕ) → D → ℕ → List ℕ → List ℕ → Data → Due P W → D → Type 0
DecidesRequest Asks IsSeat IsMade model old k name service inputs what new =
    ((model ≡ None) × (new ≡ old) × IsTold (Of name k (told.Refused word.Model)) what)
    ⊎ ((text : List ℕ) × (model ≡ Some text) × (seat : Option Seat) × Seats Asks IsSeat old name seat new
    × IsRequestDue IsMade k name service seat (plan.request_of text service inputs) what)

-- This is due to the line with this number, and what stands before the line comes to this. The parts of a decider: the text of a model,
-- the model in force, whether what is kept of it is right, that the clients are as before, that a name asked for a lane, the lane of a
-- name, and what is made of a request.
abbrev pub Decides : {D P W : Type 0} → (text_of : P → List ℕ) → (force : D → Option (List ℕ)) → (Knows : D → Type 0) → (Keeps : D → D → Type 0) → (Asks : D → List ℕ → D → Type 0)
    → (IsSeat : D → List ℕ → Option Seat → Type 0) → (IsMade : W → plan.Request → Type 0) → D → ℕ → Line → Due P W → D → Type 0
Decides text_of force Knows Keeps Asks IsSeat IsMade old k (Model json) what new =
    Keeps old new × (force new ≡ force old) × IsModelDue text_of k json (read_model json) what
Decides {D} text_of force Knows Keeps Asks IsSeat IsMade old k (Request name service inputs) what new =
    (mid : D) × Keeps old mid × (force mid ≡ force old) × (Knows old → DecidesRequest Asks IsSeat IsMade (force old) mid k name service inputs what new)
Decides text_of force Knows Keeps Asks IsSeat IsMade old k (Close name) what new = (seat : Option Seat) × Seats Asks IsSeat old name seat new × IsCloseDue k name seat what
Decides text_of force Knows Keeps Asks IsSeat IsMade old k (Resize name n) what new =
    (seat : Option Seat) × Seats Asks IsSeat old name seat new × IsResizeDue k name n seat what

-- the lane that a line is due at is its client's
abbrev pub IsAt : {D P W : Type 0} → (D → List ℕ → Option Seat → Type 0) → D → Due P W → Type 0
IsAt IsSeat decider (due.Loaded plan) = Unit {0}
IsAt IsSeat decider (due.Told report) = Unit {0}
IsAt IsSeat decider (due.Refused name seat why) = IsSeat decider name.now (Some seat)
IsAt IsSeat decider (due.Asked name service seat made) = IsSeat decider name.now (Some seat)
IsAt IsSeat decider (due.Closed name seat) = IsSeat decider name.now (Some seat)
IsAt IsSeat decider (due.Resized name seat n) = IsSeat decider name.now (Some seat)
