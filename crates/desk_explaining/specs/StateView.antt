-- Internal: no public contract cites these words. The state as it stands between lines, and what a line makes of it.
use Rattle.std.specs.Prelude.{◌≡◌, ℕ, Bool, List, ◌∷◌, ◌++◌, Option, Some, length, reverse, string_bytes}
use Rattle.std.specs.List.{flat_map}
use Rattle.serde_json.specs.Data.{Data, Items, Members}
use Rattle.serde_json.specs.Written.{compact_text}
use Rattle.desk_lines.specs.Lines.{ended}
use Rattle.desk_wire.specs.Reading.{Reading}
use Rattle.desk_requests.specs.Line.{AreRead, Line, Reads}
use Rattle.desk_requests.specs.Register.{StandsAfter, force_of}
use Rattle.desk_requests.specs.State.{number_after}
use Rattle.dmn_plan.specs.Request.{TakesValues, request_result}
use Rattle.desk_requests.specs.declared.register.Asked.{Asked}
use Rattle.desk_explaining.specs.Due.{AreReasonsOf, IsAnswer, explanation, loaded, sum_of}
use Rattle.desk_explaining.specs.Script.{AreAnswered}
use Rattle.desk_explaining.specs.declared.state.State.{State}

-- the text of the model in force
abbrev pub model_of : State → Option (List ℕ)
model_of state = force_of state.register

-- the sum is that of the model in force
abbrev pub HasSum : State → Type 0
HasSum state = (text : List ℕ) → model_of state ≡ Some text → string_bytes state.sum ≡ sum_of text

-- one line is said: that of this answer
abbrev pub Adds : List ℕ → Data → List ℕ → Type 0
Adds text answer text' = text' ≡ text ++ ended (compact_text answer)

-- a model that came in force is told, and the sum is its own
pub record Loads (old : State) (k : ℕ) (text text' : List ℕ) (new : State) : Type 0 where
  pub says : (json : Data) → model_of old ≡ Some (compact_text json) → Adds text (loaded k json) text'
  pub sum : HasSum new

-- A reply with its reasons is added, where the task has a value for each parameter of its service, and its model has this sum.
abbrev pub Explains : ℕ → List ℕ → Asked → Bool → List ℕ → List ℕ → Type 0
Explains k sum asked misses text text' = (model : List ℕ) → sum ≡ sum_of model → TakesValues asked.task.text asked.task.service (length asked.task.values) →
    (given : Members) × (decisions : Items) × AreReasonsOf misses asked.task given decisions
    × Adds text (explanation asked.client.now k model asked.service.now given decisions (request_result asked.task) asked.ticket) text'

-- the state is that after these lines
pub record Stands (state : State) (lanes : ℕ) (earlier : List (Reading Line)) : Type 0 where
  pub register : StandsAfter lanes state.register earlier
  pub sum : HasSum state

-- the line with this number has its answer after whichever lines the state stands, and then it stands after this one too
abbrev pub Hears : State → ℕ → Reading Line → List ℕ → List ℕ → State → Type 0
Hears old k reading text text' new =
    (lanes : ℕ) (earlier : List (Reading Line)) → Stands old lanes earlier → k ≡ number_after earlier →
    (more : List (List ℕ)) × IsAnswer old.misses lanes earlier reading more × (text' ≡ text ++ flat_map ended more) × Stands new lanes (reading ∷ earlier)

-- the same, of a line as it is read
abbrev pub HearsText : State → ℕ → List ℕ → List ℕ → List ℕ → State → Type 0
HearsText old k bytes text text' new = (reading : Reading Line) × Reads bytes reading × Hears old k reading text text' new

-- the state stands as after these lines, to which those were said
pub record After (state : State) (lines said : List (List ℕ)) : Type 0 where
  pub readings : List (Reading Line)
  pub read : AreRead (reverse lines) readings
  pub answered : AreAnswered state.misses state.register.lanes readings said
  pub stands : Stands state state.register.lanes readings
