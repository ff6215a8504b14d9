-- Internal, cited by no public contract: the state as it stands after turns, and what its calls do.
use Rattle.std.specs.Prelude.{◌≡◌, ◌⊎◌, ℕ, Bool, true, false, is_ok, List, [], ◌∷◌, ◌++◌, map, Option, Some, None, unwrap_or, length, bytes_eq, Result, Err, string_bytes}
use Rattle.std.specs.List.{flat_map, position}
use Rattle.serde_json.specs.Data.{Data}
use Rattle.serde_json.specs.Written.{compact_text}
use Rattle.box_core.specs.History as broker
use Rattle.box_core.specs.Mail.{Status, Running, Settled, Unknown, Waiting, standing_at}
use Rattle.box_core.specs.Table.{Step, Legal}
use Rattle.box_core.specs.Views.{report_of}
use Rattle.dmn_plan.specs.ReadModel.{read_model}
use Rattle.dmn_plan.specs.Request.{Request, request_result}
use Rattle.feel_value.specs.declared.feel.Outcome.{Outcome}
use Rattle.desk_replaying.specs.Line.{Line, Reads}
use Rattle.desk_wire.specs.Reading.{Reading, Says}
use Rattle.desk_replaying.specs.State.{Deed, Skipped, Loaded, Faulty, Asked, Refused, Turn, history, opened, in_force}
use Rattle.desk_replaying.specs.Due.{Due, Refuses, Asks, IsDue, IsDueAs}
use Rattle.desk_wire.specs.Reports as wire
use Rattle.desk_wire.specs.Reports.{Report, texts_of}
use Rattle.desk_lines.specs.Lines.{ended}
use Rattle.desk_replaying.specs.Reports.{refused, reported, reports_on}
use Rattle.desk_replaying.specs.Script.{Script}
use Rattle.desk_wire.specs.Words.{fault_word}
use Rattle.desk_replaying.specs.declared.state.State.{State}
use Rattle.desk_replaying.specs.declared.state.Effect.{Effect}
use Rattle.desk_replaying.specs.declared.state.Effect.TheVariants as effect
use Rattle.desk_wire.specs.declared.word.Word.{Word}
use Rattle.desk_wire.specs.declared.word.Word.TheVariants as word
use Rattle.model_marks.specs.declared.mark.Catalog.{Ghosts}

abbrev pub names_of : {C : Type 0} {G : Ghosts C} → State C G → List (List ℕ)
names_of state = map string_bytes state.names.items

-- the number of a name's client, and the first that isn't given yet where it has none, by the names as they are held
abbrev pub number_in : {C : Type 0} {G : Ghosts C} → State C G → List ℕ → Option ℕ
number_in state name = position (λ opened. bytes_eq (string_bytes opened) name) state.names.items

abbrev pub client_in : {C : Type 0} {G : Ghosts C} → State C G → List ℕ → ℕ
client_in state name = unwrap_or (number_in state name) (length state.names.items)

abbrev pub model_of : {C : Type 0} {G : Ghosts C} → State C G → Option (List ℕ)
model_of state = state.plan

-- the state stands as after these turns
pub record Stands {C : Type 0} {G : Ghosts C} (state : State C G) (turns : List Turn) : Type 0 where
  pub legal : Legal (λ request. request) request_result (history turns)
  pub mails : broker.state request_result (history turns) ≡ state.broker
  pub names : names_of state ≡ opened turns
  pub model : model_of state ≡ in_force turns

-- what the effect is of, if it is of this event or of the model with this text
abbrev pub deed_of : {C : Type 0} → broker.Event Request → List ℕ → Effect C → Deed
deed_of event text effect.Loaded = Loaded text
deed_of event text (effect.Faulty fault) = Faulty fault
deed_of event text (effect.Reported told) = Asked event (report_of told)
deed_of event text (effect.Refused why) = Refused why

-- the effect is due to the line after whichever turns the state stands, and then it stands after this turn too
abbrev pub HasEffect : {C : Type 0} {G : Ghosts C} → State C G → Line → Effect C → State C G → Type 0
HasEffect old says effect new =
    (turns : List Turn) → Stands old turns →
    (event : broker.Event Request) × (text : List ℕ)
    × IsDue turns says (deed_of event text effect)
    × ((k : ℕ) (bytes : List ℕ) →
    Stands new (turns ++ record { number = k; line = bytes; reading = Says says; deed = deed_of event text effect } ∷ []))

-- the refusal is the one that the request has; memory may be refused at any time
abbrev pub IsUnmade : Result Request Word → Word → Type 0
IsUnmade request why = (why ≡ word.Memory) ⊎ (request ≡ Err why)

-- what is told of an effect on a line
abbrev pub told_of : {C : Type 0} → ℕ → Line → Effect C → Report
told_of k says effect.Loaded = wire.Loaded k
told_of k says (effect.Faulty fault) = wire.Faulty k (fault_word fault)
told_of k says (effect.Reported told) = reported k says (report_of told)
told_of k says (effect.Refused why) = refused (Says says) k why

-- the state reads a model
abbrev pub LoadsModel : {C : Type 0} {G : Ghosts C} → State C G → Data → Effect C → State C G → Type 0
LoadsModel old json effect.Loaded new =
    (is_ok (read_model json) ≡ true) × (model_of new ≡ Some (compact_text json)) × (new.broker ≡ old.broker) × (new.names ≡ old.names)
LoadsModel old json (effect.Faulty fault) new = (read_model json ≡ Err fault) × (new ≡ old)
LoadsModel old json (effect.Refused why) new = (why ≡ word.Memory) × (new ≡ old)
LoadsModel old json effect new = ⊥

-- the broker reports to this event, and nothing else changes
pub record AsksBroker {C : Type 0} {G : Ghosts C} (old : State C G) (event : broker.Event Request) (told : broker.Report Request Outcome) (new : State C G) : Type 0 where
  pub step : Step (λ request. request) request_result old.broker event told new.broker
  pub names : new.names ≡ old.names
  pub plan : new.plan ≡ old.plan

abbrev pub AsksFor : {C : Type 0} {G : Ghosts C} → State C G → broker.Event Request → Effect C → State C G → Type 0
AsksFor old event (effect.Reported told) new = AsksBroker old event (report_of told) new
AsksFor old event effect new = ⊥

-- the broker is asked, or the line is refused
abbrev pub Answers : {C : Type 0} {G : Ghosts C} → State C G → Due → Effect C → State C G → Type 0
Answers old due (effect.Reported told) new =
    (event : broker.Event Request) × (due ≡ Asks event) × AsksBroker old event (report_of told) new
Answers old due (effect.Refused why) new = ((why ≡ word.Memory) ⊎ (due ≡ Refuses why)) × (new ≡ old)
Answers old due effect new = ⊥

-- a name is opened: it goes behind the others where its client was added
abbrev pub opened_name : List ℕ → broker.Report Request Outcome → List (List ℕ)
opened_name name (broker.Added client) = name ∷ []
opened_name name told = []

abbrev pub OpensAs : {C : Type 0} {G : Ghosts C} → State C G → List ℕ → ℕ → Option ℕ → Effect C → State C G → Type 0
OpensAs old name capacity (Some client) eff new = (eff ≡ effect.Refused word.Present) × (new ≡ old)
OpensAs old name capacity None (effect.Reported told) new =
    Step (λ request. request) request_result old.broker (broker.AddClient capacity) (report_of told) new.broker
    × (names_of new ≡ names_of old ++ opened_name name (report_of told)) × (new.plan ≡ old.plan)
OpensAs old name capacity None effect new = ⊥

abbrev pub Opens : {C : Type 0} {G : Ghosts C} → State C G → List ℕ → ℕ → Effect C → State C G → Type 0
Opens old name capacity effect new = OpensAs old name capacity (number_in old name) effect new

-- an answer was kept before
abbrev pub Repeats : {C : Type 0} {G : Ghosts C} → State C G → Effect C → State C G → Type 0
Repeats old (effect.Reported told) new = (report_of told ≡ broker.Repeated) × (new ≡ old)
Repeats old (effect.Refused why) new = (why ≡ word.Memory) × (new ≡ old)
Repeats old effect new = ⊥

-- the work that was taken answers its ticket, which stands so
abbrev pub AnswersAt : {C : Type 0} {G : Ghosts C} → State C G → ℕ → ℕ → Option (Status Request) → Effect C → State C G → Type 0
AnswersAt old client ticket (Some (Running work)) effect new =
    Answers old (Asks (broker.Answer client (record { ticket = ticket; work = work }))) effect new
AnswersAt old client ticket (Some Settled) effect new = Repeats old effect new
AnswersAt old client ticket (Some Unknown) effect new = Answers old (Refuses word.Strange) effect new
AnswersAt old client ticket (Some (Waiting work)) effect new = Answers old (Refuses word.Strange) effect new
AnswersAt old client ticket None effect new = Answers old (Refuses word.Strange) effect new

abbrev pub AnswersBy : {C : Type 0} {G : Ghosts C} → State C G → ℕ → Option ℕ → Effect C → State C G → Type 0
AnswersBy old ticket None effect new = Answers old (Refuses word.NoClient) effect new
AnswersBy old ticket (Some client) effect new = AnswersAt old client ticket (standing_at old.broker client ticket) effect new

-- the line has its turn after whichever turns the state stands, these reports are made on it, and then the state stands after it too
abbrev pub TakesTurn : {C : Type 0} {G : Ghosts C} → State C G → ℕ → List ℕ → List Report → State C G → Type 0
TakesTurn old k bytes more new =
    (turns : List Turn) → Stands old turns →
    (reading : Reading Line) × (deed : Deed) × Reads bytes reading × IsDueAs turns reading deed
    × (more ≡ reports_on k reading deed)
    × Stands new (turns ++ record { number = k; line = bytes; reading = reading; deed = deed } ∷ [])

-- the same, and what is said of it is at the end of the text
abbrev pub HearsText : {C : Type 0} {G : Ghosts C} → State C G → ℕ → List ℕ → List ℕ → List ℕ → State C G → Type 0
HearsText old k bytes text text' new = (more : List Report) × TakesTurn old k bytes more new × (text' ≡ text ++ flat_map ended (texts_of more))

-- the state stands as after these lines, to which those were said
pub record After {C : Type 0} {G : Ghosts C} (state : State C G) (lines output : List (List ℕ)) : Type 0 where
  pub script : Script lines output
  pub stands : Stands state script.turns
