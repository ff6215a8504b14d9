-- What stands between the lines where each client has a lane.
use Rattle.std.specs.Prelude.{◌≡◌, ◌||◌, ℕ, ◌<◌, List, [], ◌∷◌, length, Option, Some, None, bytes_eq}
use Rattle.std.specs.Arc.{arc_value}
use Rattle.std.specs.declared.alloc.Global.{Global}
use Rattle.std.specs.declared.sync.Arc.{Arc}
use Rattle.std.specs.BTreeSet.{contains_text}
use Rattle.desk_wire.specs.Reading.{Reading}
use Rattle.desk_wire.specs.ReportView.{report_view}
use Rattle.desk_wire.specs.declared.heard.Heard.{Heard}
use Rattle.desk_wire.specs.declared.heard.Heard.TheVariants as heard
use Rattle.desk_wire.specs.declared.word.Word.TheVariants as word
use Rattle.desk_requests.specs.Line.{Line, Reads}
use Rattle.desk_requests.specs.Refused.{refused, refused_at, refused_by}
use Rattle.desk_requests.specs.Services.{KnowsServices}
use Rattle.desk_requests.specs.State.{in_force, is_closed, number_after}
use Rattle.desk_requests.specs.declared.decider.Due.{Due}
use Rattle.desk_requests.specs.declared.decider.Due.TheVariants as due
use Rattle.desk_requests.specs.declared.decider.Seat.{Seat}
use Rattle.desk_requests.specs.declared.gate.Gate.{Gate}
use Rattle.desk_requests.specs.declared.refused.RefusedLine.{RefusedLine}

-- the gate stands as these lines leave it
pub record IsOpenAfter (gate : Gate) (earlier : List (Reading Line)) : Type 0 where
  pub model : in_force earlier ≡ Some (arc_value gate.plan)
  pub closed : (name : List ℕ) → contains_text gate.closed name ≡ is_closed name earlier
  pub services : KnowsServices (arc_value gate.plan) gate.services

abbrev pub listed : Option RefusedLine → List RefusedLine
listed None = []
listed (Some line) = line ∷ []

-- The line with this number, read so, is refused as it is due after whichever lines the gate stands, where there are more lanes than
-- these; and then the gate stands behind it.
abbrev pub Passes : Gate → ℕ → Reading Line → Option RefusedLine → Gate → Type 0
Passes old k reading found new =
    (earlier : List (Reading Line)) → IsOpenAfter old earlier → k ≡ number_after earlier →
    ((lanes : ℕ) → length earlier < lanes → refused_at lanes earlier reading ≡ listed found) × IsOpenAfter new (reading ∷ earlier)

-- the same of a line as it is read
abbrev pub PassesText : Gate → ℕ → List ℕ → Option RefusedLine → Gate → Type 0
PassesText old k bytes found new = (reading : Reading Line) × Reads bytes reading × Passes old k reading found new

-- what is kept of the services is that of the model in force
abbrev pub Knows : Gate → Type 0
Knows gate = KnowsServices (arc_value gate.plan) gate.services

-- each client has a lane
abbrev pub IsSeat : Gate → List ℕ → Option Seat → Type 0
IsSeat gate name None = ⊥
IsSeat gate name (Some seat) = seat.is_closed ≡ contains_text gate.closed name

-- Internal from here on.

-- what is refused of a line that says nothing
abbrev pub unread : ℕ → Heard → List RefusedLine
unread k heard.Blank = []
unread k heard.Long = refused k word.Long ∷ []
unread k heard.Syntax = refused k word.Syntax ∷ []
unread k heard.Other = refused k word.Shape ∷ []
unread k (heard.Object members) = refused k word.Shape ∷ []

-- what is due to the line with this number was done, and this is refused of it
abbrev pub Settles : ℕ → Due (Arc (List ℕ) Global) (Unit {0}) → Gate → Option RefusedLine → Gate → Type 0
Settles k (due.Loaded plan) old found new =
    (listed found ≡ []) × (new.closed ≡ old.closed) × (arc_value new.plan ≡ arc_value plan) × ((text : List ℕ) → KnowsServices text new.services)
Settles k (due.Told said) old found new = (listed found ≡ refused_by (report_view said)) × (new ≡ old)
Settles k (due.Refused name seat why) old found new = (listed found ≡ refused k why ∷ []) × (new ≡ old)
Settles k (due.Closed name seat) old found new =
    (listed found ≡ []) × (new.plan ≡ old.plan) × (new.services ≡ old.services)
    × ((other : List ℕ) → contains_text new.closed other ≡ (bytes_eq name.now other || contains_text old.closed other))
Settles k what old found new = (listed found ≡ []) × (new ≡ old)
