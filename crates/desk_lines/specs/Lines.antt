-- The lines of an input.
use Rattle.std.specs.Prelude.{◌≡◌, ℕ, ◌-◌, ◌^◌, take, ◌==◌, List, [], ◌∷◌, ◌++◌, length, nat_le, if◌then◌else◌, Option, Some, None, Bool, false}
use Rattle.std.specs.List.{list_any, flat_map}

abbrev pub newline : ℕ
newline = 10

-- b goes onto the first line
abbrev pub onto_first : ℕ → List (List ℕ) → List (List ℕ)
onto_first b [] = (b ∷ []) ∷ []
onto_first b (line ∷ lines) = (b ∷ line) ∷ lines

-- the lines of a text: each ends with a newline, which the last may lack
abbrev pub lines_of : List ℕ → List (List ℕ)
lines_of [] = []
lines_of (b ∷ text) = if b == newline then [] ∷ lines_of text else onto_first b (lines_of text)

-- b goes onto the first line, where there is one
abbrev pub onto_whole : ℕ → List (List ℕ) → List (List ℕ)
onto_whole b [] = []
onto_whole b (line ∷ lines) = (b ∷ line) ∷ lines

-- the lines whose newline is there too
abbrev pub whole_lines_of : List ℕ → List (List ℕ)
whole_lines_of [] = []
whole_lines_of (b ∷ text) = if b == newline then [] ∷ whole_lines_of text else onto_whole b (whole_lines_of text)

-- the most bytes of a line, without its newline
abbrev pub max_line : ℕ
max_line = 1048576

-- the most bytes of an input
abbrev pub max_input : ℕ
max_input = 2 ^ 40

-- a line as it is kept: none of one that is too long
abbrev pub kept_line : List ℕ → Option (List ℕ)
kept_line line = if nat_le (length line) max_line then Some line else None

-- a line with its newline
abbrev pub ended : List ℕ → List ℕ
ended line = line ++ newline ∷ []

-- whether a newline is among the bytes
abbrev pub has_newline : List ℕ → Bool
has_newline bytes = list_any (λ b. b == newline) bytes

abbrev pub IsOneLine : List ℕ → Type 0
IsOneLine line = has_newline line ≡ false

-- none of the lines has a newline inside
abbrev pub AreLines : List (List ℕ) → Type 0
AreLines [] = Unit {0}
AreLines (line ∷ lines) = IsOneLine line × AreLines lines

-- the text is these whole lines, and then the rest
pub record Splits (text : List ℕ) (lines : List (List ℕ)) (rest : List ℕ) : Type 0 where
  pub is : text ≡ flat_map ended lines ++ rest
  pub each : AreLines lines

-- a kept line and the next piece of it
abbrev pub longer : Option (List ℕ) → List ℕ → Option (List ℕ)
longer None piece = None
longer (Some line) piece = kept_line (line ++ piece)

-- of the bytes that come once `came` did, those within the limit of an input
abbrev pub heard : ℕ → List ℕ → List ℕ
heard came bytes = take (max_input - came) bytes
