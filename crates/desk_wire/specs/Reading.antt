-- How a line of an input is read, whichever lines there may be.
use Rattle.std.specs.Prelude.{◌≡◌, ◌≢◌, ◌⊎◌, ℕ, ◌<◌, ◌≤◌, ◌==◌, ◌||◌, Bool, true, List, length, Some, None}
use Rattle.std.specs.List.{list_all}
use Rattle.std.specs.Str.{IsUtf8}
use Rattle.serde_json.specs.Data.{Data}
use Rattle.serde_json.specs.Read.{read}
use Rattle.desk_lines.specs.Lines.{max_line}

pub data Reading (L : Type 0) : Type 0 where
  Blank : Reading L
  Long : Reading L
  Syntax : Reading L
  Shape : Reading L
  Says : (line : L) → Reading L

abbrev pub is_blank : List ℕ → Bool
is_blank text = list_all (λ b. (b == 32) || (b == 9) || (b == 13)) text

-- the first that applies: too long, blank, no JSON text nested at most 127 deep, no lawful line, the line of this object
abbrev pub ReadsAs : {L : Type 0} → (L → Data) → (L → Type 0) → List ℕ → Reading L → Type 0
ReadsAs object_of IsLawful text Long = max_line < length text
ReadsAs object_of IsLawful text Blank = (length text ≤ max_line) × (is_blank text ≡ true)
ReadsAs object_of IsLawful text Syntax = (length text ≤ max_line) × (is_blank text ≢ true) × (¬ IsUtf8 text ⊎ (read text ≡ None))
ReadsAs {L} object_of IsLawful text Shape =
    (length text ≤ max_line) × (is_blank text ≢ true) × IsUtf8 text
    × ((value : Data) × (read text ≡ Some value) × ((line : L) → IsLawful line → object_of line ≢ value))
ReadsAs object_of IsLawful text (Says line) =
    (length text ≤ max_line) × (is_blank text ≢ true) × IsUtf8 text × (read text ≡ Some (object_of line)) × IsLawful line
