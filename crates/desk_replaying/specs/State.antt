-- What became of the lines so far, and what is read off it.
use Rattle.std.specs.Prelude.{ℕ, List, [], ◌∷◌, Option, Some, None, if◌then◌else◌, slice_get}
use Rattle.std.specs.List.{flat_map}
use Rattle.box_core.specs.History as broker
use Rattle.dmn_plan.specs.Request.{Request}
use Rattle.dmn_plan.specs.declared.fault.ModelFault.{ModelFault}
use Rattle.feel_value.specs.declared.feel.Outcome.{Outcome}
use Rattle.desk_replaying.specs.Line.{Line, Open}
use Rattle.desk_wire.specs.Reading.{Reading, Says}
use Rattle.desk_wire.specs.declared.word.Word.{Word}

-- what is done with a line
pub data Deed : Type 0 where
  -- nothing: the line is blank
  Skipped : Deed
  -- the model with this text is in force from the next line on
  Loaded : (text : List ℕ) → Deed
  -- the model has this fault
  Faulty : (fault : ModelFault) → Deed
  -- the broker is asked, and reports
  Asked : (event : broker.Event Request) → (report : broker.Report Request Outcome) → Deed
  -- the front refuses the line
  Refused : (why : Word) → Deed

-- a line with its number, how it is read, and what is done
pub record Turn : Type 0 where
  pub number : ℕ
  pub line : List ℕ
  pub reading : Reading Line
  pub deed : Deed

abbrev pub pair_of : Deed → broker.History Request Outcome
pair_of (Asked event report) = (event, report) ∷ []
pair_of deed = []

-- what the broker was asked, and what it reported
abbrev pub history : List Turn → broker.History Request Outcome
history turns = flat_map (λ turn. pair_of turn.deed) turns

-- the name that a line opens, where it does
abbrev pub opened_by : Reading Line → Deed → List (List ℕ)
opened_by (Says (Open name n)) (Asked event (broker.Added client)) = name ∷ []
opened_by reading deed = []

-- the names that were opened, by their clients' numbers
abbrev pub opened : List Turn → List (List ℕ)
opened turns = flat_map (λ turn. opened_by turn.reading turn.deed) turns

-- the model in force after a line, where this one was
abbrev pub newer : Option (List ℕ) → Deed → Option (List ℕ)
newer model (Loaded text) = Some text
newer model deed = model

abbrev pub in_force_after : Option (List ℕ) → List Turn → Option (List ℕ)
in_force_after model [] = model
in_force_after model (turn ∷ turns) = in_force_after (newer model turn.deed) turns

-- the text of the model in force: the last that was read
abbrev pub in_force : List Turn → Option (List ℕ)
in_force = in_force_after None

-- the request of a ticket that was taken
abbrev pub taken_work : broker.History Request Outcome → ℕ → ℕ → Option Request
taken_work history c t = if broker.is_taken history c t then slice_get (broker.accepted history c) t else None
