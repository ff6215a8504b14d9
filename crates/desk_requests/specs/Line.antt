-- The lines of `serve`.
use Rattle.std.specs.Prelude.{◌≡◌, ℕ, ◌^◌, ◌<◌, List, [], ◌∷◌, Option, Some, None, true, codes}
use Rattle.serde_json.specs.Data.{Data, boolean, object, member, no_members}
use Rattle.serde_json.specs.View.{view}
use Rattle.desk_wire.specs.Parts.{IsName, IsObject, with_name, with_number}
use Rattle.desk_wire.specs.Reading.{Reading, ReadsAs}
use Rattle.desk_requests.specs.declared.line.Line as held
use Rattle.desk_requests.specs.declared.line.Line.TheVariants as form

pub data Line : Type 0 where
  Model : (model : Data) → Line
  Request : (name service : List ℕ) → (inputs : Data) → Line
  Close : (name : List ℕ) → Line
  Resize : (name : List ℕ) → (capacity : ℕ) → Line

-- the client that a line is of; a model line is of none
abbrev pub client_of : Line → Option (List ℕ)
client_of (Model model) = None
client_of (Request name service inputs) = Some name
client_of (Close name) = Some name
client_of (Resize name capacity) = Some name

-- the object that a line is
abbrev pub object_of : Line → Data
object_of (Model model) = object (member (codes "model") model no_members)
object_of (Request name service inputs) =
    object (with_name (codes "client") name (member (codes "inputs") inputs (with_name (codes "service") service no_members)))
object_of (Close name) = object (with_name (codes "client") name (member (codes "close") (boolean true) no_members))
object_of (Resize name capacity) = object (with_number (codes "capacity") capacity (with_name (codes "resize") name no_members))

-- names have 1 to 64 bytes, capacities fit 32 bits, and inputs are objects
abbrev pub IsLawful : Line → Type 0
IsLawful (Model model) = Unit {0}
IsLawful (Request name service inputs) = IsName name × IsObject inputs
IsLawful (Close name) = IsName name
IsLawful (Resize name capacity) = IsName name × (capacity < 2 ^ 32)

-- the line that the code holds
abbrev pub line_view : held.Line → Line
line_view (form.Model model) = Model (view model.now)
line_view (form.Request name service inputs) = Request name.now service.now (view inputs.now)
line_view (form.Close name) = Close name.now
line_view (form.Resize name n) = Resize name.now n

-- the value is this lawful line
abbrev pub IsLine : Line → Data → Type 0
IsLine says value = (object_of says ≡ value) × IsLawful says

-- how a line of an input is read
abbrev pub Reads : List ℕ → Reading Line → Type 0
Reads = ReadsAs object_of IsLawful

-- each line is read so; both lists are the newest first
abbrev pub AreRead : List (List ℕ) → List (Reading Line) → Type 0
AreRead [] [] = Unit {0}
AreRead (line ∷ lines) (reading ∷ readings) = Reads line reading × AreRead lines readings
AreRead lines readings = ⊥
