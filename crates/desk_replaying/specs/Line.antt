-- What a line says.
use Rattle.std.specs.Prelude.{◌≡◌, ℕ, ◌^◌, ◌<◌, List, codes}
use Rattle.serde_json.specs.Data.{Data, object, member, no_members}
use Rattle.serde_json.specs.View.{view}
use Rattle.desk_wire.specs.Parts.{with_name, with_number, IsName, IsTicket, IsObject}
use Rattle.desk_wire.specs.Reading.{Reading, ReadsAs}
use Rattle.desk_replaying.specs.declared.line.Line as held
use Rattle.desk_replaying.specs.declared.line.Line.TheVariants as form

-- the lines of `replay`, by what they name
pub data Line : Type 0 where
  Model : (model : Data) → Line
  Open : (name : List ℕ) → (capacity : ℕ) → Line
  Submit : (name service : List ℕ) → (inputs : Data) → Line
  Take : (name : List ℕ) → (ticket : ℕ) → Line
  Answer : (name : List ℕ) → (ticket : ℕ) → Line
  AnswerWith : (name : List ℕ) → (ticket : ℕ) → (service : List ℕ) → (inputs : Data) → Line
  Release : (name : List ℕ) → Line
  Close : (name : List ℕ) → Line
  Resize : (name : List ℕ) → (capacity : ℕ) → Line

-- the object that a line is
abbrev pub object_of : Line → Data
object_of (Model model) = object (member (codes "model") model no_members)
object_of (Open name capacity) = object (with_number (codes "capacity") capacity (with_name (codes "open") name no_members))
object_of (Submit name service inputs) =
    object (member (codes "inputs") inputs (with_name (codes "service") service (with_name (codes "submit") name no_members)))
object_of (Take name ticket) = object (with_name (codes "take") name (with_number (codes "ticket") ticket no_members))
object_of (Answer name ticket) = object (with_name (codes "answer") name (with_number (codes "ticket") ticket no_members))
object_of (AnswerWith name ticket service inputs) =
    object (with_name (codes "answer") name (member (codes "inputs") inputs
    (with_name (codes "service") service (with_number (codes "ticket") ticket no_members))))
object_of (Release name) = object (with_name (codes "release") name no_members)
object_of (Close name) = object (with_name (codes "close") name no_members)
object_of (Resize name capacity) = object (with_number (codes "capacity") capacity (with_name (codes "resize") name no_members))

-- names have 1 to 64 bytes, capacities fit 32 bits, tickets 63, and inputs are objects
abbrev pub IsLawful : Line → Type 0
IsLawful (Model model) = Unit {0}
IsLawful (Open name capacity) = IsName name × (capacity < 2 ^ 32)
IsLawful (Submit name service inputs) = IsName name × IsObject inputs
IsLawful (Take name ticket) = IsName name × IsTicket ticket
IsLawful (Answer name ticket) = IsName name × IsTicket ticket
IsLawful (AnswerWith name ticket service inputs) = IsName name × IsTicket ticket × IsObject inputs
IsLawful (Release name) = IsName name
IsLawful (Close name) = IsName name
IsLawful (Resize name capacity) = IsName name × (capacity < 2 ^ 32)

-- the value is this lawful line
abbrev pub IsLine : Line → Data → Type 0
IsLine line value = (object_of line ≡ value) × IsLawful line

-- how a line of an input is read
abbrev pub Reads : List ℕ → Reading Line → Type 0
Reads = ReadsAs object_of IsLawful

-- Internal from here on.

-- the line that the code holds
abbrev pub line_view : held.Line → Line
line_view (form.Model model) = Model (view model.now)
line_view (form.Open name n) = Open name.now n
line_view (form.Submit name service inputs) = Submit name.now service.now (view inputs.now)
line_view (form.Take name t) = Take name.now t
line_view (form.Answer name t) = Answer name.now t
line_view (form.AnswerWith name t service inputs) = AnswerWith name.now t service.now (view inputs.now)
line_view (form.Release name) = Release name.now
line_view (form.Close name) = Close name.now
line_view (form.Resize name n) = Resize name.now n
