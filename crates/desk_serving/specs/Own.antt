-- A client's own lines, from which all that it is told follows.
--
-- Each definition is over the lines read so far, the newest first, as in `State`.
use Rattle.std.specs.Prelude.{◌≡◌, ℕ, Bool, true, false, if◌then◌else◌, List, [], ◌∷◌, Option, Some, None, map, bytes_eq}
use Rattle.desk_wire.specs.Reading.{Reading, Says}
use Rattle.desk_wire.specs.Reports.{Report, Loaded, Faulty, Refused, Of, Reply}
use Rattle.desk_requests.specs.Line.{Line, client_of}
use Rattle.desk_serving.specs.Script.{Served, of_client}
use Rattle.desk_requests.specs.State.{has_lane, in_force}

-- a line of a client, with the text of the model in force on it
pub record OwnLine : Type 0 where
  pub model : Option (List ℕ)
  pub says : Line

abbrev pub is_named : List ℕ → Option (List ℕ) → Bool
is_named name None = false
is_named name (Some n) = bytes_eq n name

-- whether a line is of this client
abbrev pub is_of : List ℕ → Line → Bool
is_of name line = is_named name (client_of line)

abbrev pub with_own : List ℕ → Option (List ℕ) → Reading Line → List OwnLine → List OwnLine
with_own name model (Says line) own = if is_of name line then (record { model = model; says = line }) ∷ own else own
with_own name model reading own = own

-- the lines of a client, each with the model in force on it
abbrev pub own_lines_of : List ℕ → List (Reading Line) → List OwnLine
own_lines_of name [] = []
own_lines_of name (reading ∷ earlier) = with_own name (in_force earlier) reading (own_lines_of name earlier)

-- a report but for the number of its line
abbrev pub without_number : Report → Report
without_number (Loaded k) = Loaded 0
without_number (Faulty k fault) = Faulty 0 fault
without_number (Refused k why) = Refused 0 why
without_number (Of client k told) = Of client 0 told
without_number (Reply client ticket outcome) = Reply client ticket outcome

-- what a client is told, but for the numbers of lines
abbrev pub told_to : List ℕ → List Report → List Report
told_to name said = map (λ report. without_number report) (of_client (Some name) said)

-- Two inputs, each served over some number of lanes, in both of which a client has a lane: where its own lines are the same, with the
-- same models in force on them, it is told the same, but for the numbers of lines.
abbrev pub OwnLinesDecide : Type 0
OwnLinesDecide =
    (name : List ℕ) (lanes lanes' : ℕ) (lines written lines' written' : List (List ℕ)) (one : Served lanes lines written) (other : Served lanes' lines' written')
    → has_lane lanes one.readings name ≡ true → has_lane lanes' other.readings name ≡ true
    → own_lines_of name one.readings ≡ own_lines_of name other.readings → told_to name one.said ≡ told_to name other.said
