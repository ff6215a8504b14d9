-- What is said of a turn.
use Rattle.std.specs.Prelude.{ℕ, List, [], ◌∷◌}
use Rattle.box_core.specs.History as broker
use Rattle.dmn_plan.specs.Request.{Request}
use Rattle.feel_value.specs.declared.feel.Outcome.{Outcome}
use Rattle.desk_wire.specs.Reading.{Reading, Says}
use Rattle.desk_wire.specs.Reports as wire
use Rattle.desk_wire.specs.Reports.{Report, Of, Reply, texts_of}
use Rattle.desk_wire.specs.Words.{fault_word, refusal_word, unadded_word}
use Rattle.desk_wire.specs.declared.report.Told.TheVariants as told
use Rattle.desk_wire.specs.declared.word.Word.{Word}
use Rattle.desk_wire.specs.declared.word.Word.TheVariants as word
use Rattle.desk_replaying.specs.Line.{Line, Model, Open, Submit, Take, Answer, AnswerWith, Release, Close, Resize}
use Rattle.desk_replaying.specs.State.{Deed, Skipped, Loaded, Faulty, Asked, Refused, Turn}

-- the name on a line; a model line has none
abbrev pub name_on : Line → List ℕ
name_on (Model json) = []
name_on (Open name n) = name
name_on (Submit name service inputs) = name
name_on (Take name t) = name
name_on (Answer name t) = name
name_on (AnswerWith name t service inputs) = name
name_on (Release name) = name
name_on (Close name) = name
name_on (Resize name n) = name

-- the capacity that a line opens a name with
abbrev pub capacity_on : Line → ℕ
capacity_on (Open name n) = n
capacity_on line = 0

-- the ticket that a line answers
abbrev pub ticket_on : Line → ℕ
ticket_on (Answer name t) = t
ticket_on (AnswerWith name t service inputs) = t
ticket_on line = 0

-- a refusal has the name where the line has one
abbrev pub refused : Reading Line → ℕ → Word → Report
refused (Says (Model json)) k why = wire.Refused k why
refused (Says line) k why = Of (name_on line) k (told.Refused why)
refused reading k why = wire.Refused k why

-- the broker's report to a line
abbrev pub reported : ℕ → Line → broker.Report Request Outcome → Report
reported k line (broker.Added client) = Of (name_on line) k (told.Opened (capacity_on line))
reported k line (broker.NotAdded why) = Of (name_on line) k (told.Refused (unadded_word why))
reported k line (broker.Accepted t) = Of (name_on line) k (told.Accepted t)
reported k line (broker.Taken job) = Of (name_on line) k (told.Taken job.ticket)
reported k line broker.Kept = Of (name_on line) k (told.Kept (ticket_on line))
reported k line broker.Strange = Of (name_on line) k (told.Refused word.Strange)
reported k line broker.Repeated = Of (name_on line) k (told.Refused word.Repeated)
reported k line (broker.Handed t outcome) = Reply (name_on line) t outcome
reported k line broker.Nothing = Of (name_on line) k told.Nothing
reported k line broker.Closed = Of (name_on line) k told.Closed
reported k line (broker.Resized n) = Of (name_on line) k (told.Resized n)
reported k line (broker.Refused why) = Of (name_on line) k (told.Refused (refusal_word why))

-- the reports on a line: none where it is passed over; the broker is asked only on lines that say something
abbrev pub reports_on : ℕ → Reading Line → Deed → List Report
reports_on k reading Skipped = []
reports_on k reading (Loaded text) = wire.Loaded k ∷ []
reports_on k reading (Faulty fault) = wire.Faulty k (fault_word fault) ∷ []
reports_on k reading (Refused why) = refused reading k why ∷ []
reports_on k (Says line) (Asked event report) = reported k line report ∷ []
reports_on k reading (Asked event report) = []

-- what is said of a turn
abbrev pub said_of : Turn → List (List ℕ)
said_of turn = texts_of (reports_on turn.number turn.reading turn.deed)
