-- Internal, cited by no public contract: what stands between the lines of `serve`, and what a line makes of it.
use Rattle.std.specs.Prelude.{◌≡◌, ◌<◌, ◌^◌, ℕ, false, List, ◌∷◌, ◌++◌, Option, Some, None, length, reverse, slice_get, slice_set}
use Rattle.std.specs.Arc.{arc_value}
use Rattle.std.specs.declared.alloc.Global.{Global}
use Rattle.std.specs.declared.sync.Arc.{Arc}
use Rattle.std.specs.List.{flat_map}
use Rattle.dmn_plan.specs.Request as plan
use Rattle.desk_lines.specs.Lines.{ended}
use Rattle.desk_wire.specs.Reading.{Reading}
use Rattle.desk_wire.specs.ReportView.{report_view}
use Rattle.desk_wire.specs.Reports.{Report, Loaded, Of, Reply, report_text}
use Rattle.desk_wire.specs.declared.heard.Heard.{Heard}
use Rattle.desk_wire.specs.declared.report.Told.{Told}
use Rattle.desk_wire.specs.declared.report.Told.TheVariants as told
use Rattle.desk_requests.specs.Decider.{Decides}
use Rattle.desk_requests.specs.Line.{Line, Reads, AreRead, line_view}
use Rattle.desk_requests.specs.LineHeard.{IsLineOf}
use Rattle.desk_requests.specs.State.{number_after, with_lane}
use Rattle.desk_requests.specs.declared.decider.Due.{Due}
use Rattle.desk_requests.specs.declared.decider.Due.TheVariants as due
use Rattle.desk_requests.specs.declared.decider.Seat.{Seat}
use Rattle.desk_requests.specs.declared.line.Line as held
use Rattle.desk_serving.specs.LanesView.{IsSeatIn, lanes_in, names_in}
use Rattle.desk_serving.specs.Owed.{HandsThen, Queue, Stands, unhanded, with_put, with_told}
use Rattle.desk_serving.specs.Script.{texts_of}
use Rattle.desk_serving.specs.declared.state.State.{State}
use Rattle.model_marks.specs.declared.mark.Catalog.{Ghosts}

-- what is made of a request is its task
abbrev pub IsTask : Arc plan.Request Global → plan.Request → Type 0
IsTask task q = arc_value task ≡ q

-- what is due to a line
abbrev pub DueHere : Type 0
DueHere = Due (List ℕ) (Arc plan.Request Global)

module _ {C R : Type 0} {G : Ghosts C} where
  abbrev pub model_of : State C R G → Option (List ℕ)
  model_of state = state.plan

  -- it is the state after these lines, once this was said
  abbrev pub StandsAs : State C R G → List (Reading Line) → List Report → Type 0
  StandsAs state read said = Stands read read (names_in state.lanes) (model_of state) (lanes_in state.lanes) said

  -- each lane has tickets left
  abbrev pub HasRoom : State C R G → Type 0
  HasRoom state = (place : ℕ) (lane : Queue) → slice_get (lanes_in state.lanes) place ≡ Some lane → length lane.put < 2 ^ 60

  -- whichever lines the old state is after, the new one is after this line too, and what came to be said of it is at the end of the text
  abbrev pub Hears : State C R G → ℕ → Reading Line → List ℕ → List ℕ → State C R G → Type 0
  Hears old number reading text text' new =
      (earlier : List (Reading Line)) (said : List Report) → StandsAs old earlier said → number ≡ number_after earlier →
      (more : List Report) × (text' ≡ text ++ flat_map ended (texts_of more)) × StandsAs new (reading ∷ earlier) (said ++ more)

  -- the same, of a line as it is read
  abbrev pub HearsText : State C R G → ℕ → List ℕ → List ℕ → List ℕ → State C R G → Type 0
  HearsText old number bytes text text' new = (reading : Reading Line) × Reads bytes reading × Hears old number reading text text' new

  -- the state after these lines, to which those were said
  pub record After (state : State C R G) (lines written : List (List ℕ)) : Type 0 where
    pub readings : List (Reading Line)
    pub read : AreRead (reverse lines) readings
    pub said : List Report
    pub output : written ≡ texts_of said
    pub stands : StandsAs state readings said

  -- ## What is due

  -- the lane of a name, or that there is none for it
  abbrev pub IsSeat : State C R G → List ℕ → Option Seat → Type 0
  IsSeat state name seat = IsSeatIn state.lanes name seat

  -- this is decided to be due to the line with this number
  abbrev pub DecidesHere : State C R G → ℕ → Line → DueHere → State C R G → Type 0
  DecidesHere =
      Decides (λ (text : List ℕ). text) model_of (λ (_ : State C R G). Unit {0}) (λ (old new : State C R G). new.lanes ≡ old.lanes) (λ (old : State C R G) (_ : List ℕ) (new : State C R G). new ≡ old)
      IsSeat IsTask

  -- it is due, and to decide so changes nothing
  abbrev pub IsDueTo : State C R G → ℕ → Line → DueHere → Type 0
  IsDueTo state k line what = DecidesHere state k line what state

  -- the same, of a line as it is heard; nothing is due to what is none of the lines
  abbrev pub IsDueToHeard : State C R G → ℕ → Heard → Option DueHere → Type 0
  IsDueToHeard state k heard None = IsLineOf heard None
  IsDueToHeard state k heard (Some what) = (line : held.Line) × IsLineOf heard (Some line) × IsDueTo state k (line_view line) what

  -- it can be done: at the lane of the line's client, and where a request is put, that is open
  abbrev pub CanBeDone : State C R G → DueHere → Type 0
  CanBeDone state (due.Loaded text) = Unit {0}
  CanBeDone state (due.Told said) = Unit {0}
  CanBeDone state (due.Refused name seat why) = IsSeat state name.now (Some seat)
  CanBeDone state (due.Asked name service seat task) = IsSeat state name.now (Some seat) × (seat.is_closed ≡ false)
  CanBeDone state (due.Closed name seat) = IsSeat state name.now (Some seat)
  CanBeDone state (due.Resized name seat n) = IsSeat state name.now (Some seat)

  -- ## What was done

  -- A client has its lane, and this report stands said, or is owed, behind all that was owed before. But for what was handed out,
  -- the lanes are these.
  pub record IsAnswered (old : State C R G) (name : List ℕ) (lanes : List Queue) (report : Report) (text text' : List ℕ) (new : State C R G) : Type 0 where
    pub model : model_of new ≡ model_of old
    pub names : names_in new.lanes ≡ with_lane (length (lanes_in old.lanes)) name (names_in old.lanes)
    pub lanes_are : unhanded (lanes_in new.lanes) ≡ unhanded lanes
    pub hands : HandsThen (names_in new.lanes) (lanes_in old.lanes) (lanes_in new.lanes) report text text'

  -- this is told of the client's line with this number
  abbrev pub IsToldAt : State C R G → List ℕ → Seat → ℕ → Told → List ℕ → List ℕ → State C R G → Type 0
  IsToldAt old name seat k what text text' new =
      (lane : Queue) → slice_get (lanes_in old.lanes) seat.place ≡ Some lane
      → IsAnswered old name (slice_set (lanes_in old.lanes) seat.place (with_told k what lane)) (Of name k what) text text' new

  -- what is due to the line with this number was done
  abbrev pub Settles : ℕ → DueHere → State C R G → List ℕ → List ℕ → State C R G → Type 0
  Settles k (due.Loaded model) old text text' new =
      (model_of new ≡ Some model) × (new.lanes ≡ old.lanes) × (text' ≡ text ++ ended (report_text (Loaded k)))
  Settles k (due.Told said) old text text' new = (new ≡ old) × (text' ≡ text ++ ended (report_text (report_view said)))
  Settles k (due.Refused name seat why) old text text' new = IsToldAt old name.now seat k (told.Refused why) text text' new
  Settles k (due.Asked name service seat task) old text text' new =
      (lane : Queue) → slice_get (lanes_in old.lanes) seat.place ≡ Some lane
      → IsAnswered old name.now (slice_set (lanes_in old.lanes) seat.place (with_put lane (arc_value task))) (Reply name.now (length lane.put) (plan.request_result (arc_value task))) text text' new
  Settles k (due.Closed name seat) old text text' new = IsToldAt old name.now seat k told.Closed text text' new
  Settles k (due.Resized name seat n) old text text' new = IsToldAt old name.now seat k (told.Resized n) text text' new
