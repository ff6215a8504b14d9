-- Internal: what the reader of lines does.
use Rattle.std.specs.Prelude.{◌≡◌, ℕ, ◌+◌, ◌-◌, ◌^◌, ◌<◌, ◌≤◌, min, List, [], ◌∷◌, ◌++◌, length, slice_range, Option, Bool, is_some, position, ◌==◌}
use Rattle.std.specs.Io.KnownBytes.{IsAtEnd, Consumes}
use Rattle.desk_lines.specs.declared.lines.LineReader.{LineReader}
use Rattle.desk_lines.specs.declared.lines.Next.{Next}
use Rattle.desk_lines.specs.declared.lines.Next.TheVariants.{Line, Last, End, Open}
use Rattle.desk_lines.specs.Lines.{newline, kept_line, max_input, IsOneLine}

-- the bytes that were read and stand in no line yet
abbrev pub waiting : LineReader → List ℕ
waiting reader = slice_range reader.buffer.items reader.at reader.end

-- whether one of them ends a line
abbrev pub has_newline : LineReader → Bool
has_newline reader = is_some (position (λ b. b == newline) (waiting reader))

-- how much may come yet, and what waits
abbrev pub to_come : LineReader → ℕ
to_come reader = (max_input + 1 - reader.came) + length (waiting reader)

-- The text is a line, which is kept, and the rest. The last line lacks its newline, and nothing is left of the input. At the end there was no text.
-- Of an open line the text is what came so far.
abbrev pub Took : Next → List ℕ → List ℕ → Option (List ℕ) → Option (List ℕ) → Type 0
Took Line text rest kept left = (line : List ℕ) × IsOneLine line × (text ≡ line ++ newline ∷ rest) × (kept ≡ kept_line line)
Took Last text rest kept left = IsOneLine text × (0 < length text) × (rest ≡ []) × (kept ≡ kept_line text) × IsAtEnd left
Took End text rest kept left = (text ≡ []) × (rest ≡ []) × IsAtEnd left
Took Open text rest kept left = IsOneLine text × (rest ≡ []) × (kept ≡ kept_line text)

-- these bytes came: the input lost them, and the count of all that came grew by theirs
pub record Comes (left left' : Option (List ℕ)) (came came' : ℕ) (bytes : List ℕ) : Type 0 where
  pub taken : Consumes left left' bytes
  pub count : came' ≡ came + length bytes

-- a device's count is some start and what came, at the most that it can be
pub record IsInStep (start device came : ℕ) : Type 0 where
  pub above : device ≤ start + came
  pub below : min (start + came) (2 ^ 64 - 1) ≤ device

-- where a device's count was in step with what came, it still is
abbrev pub StaysInStep : ℕ → ℕ → ℕ → ℕ → Type 0
StaysInStep device device' came came' = (start : ℕ) → IsInStep start device came → IsInStep start device' came'
