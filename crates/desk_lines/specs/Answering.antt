-- What a clerk says between lines, and to a line.
use Rattle.std.specs.Prelude.{◌≡◌, ◌+◌, ℕ, List, [], ◌∷◌, ◌++◌, length, Option}
use Rattle.std.specs.List.{flat_map}
use Rattle.desk_lines.specs.Gathers.{Gathers}
use Rattle.desk_lines.specs.Lines.{ended, kept_line}

-- after whichever lines and sayings it stood, more is said, and it stands so
abbrev pub SaysMore : (After After' : List (List ℕ) → List (List ℕ) → Type 0) → (wrote wrote' : Option (List ℕ)) → (waits waits' : List ℕ) → Type 0
SaysMore After After' wrote wrote' waits waits' = (lines said : List (List ℕ)) → After lines said →
    (more : List (List ℕ)) × After' lines (said ++ more) × Gathers wrote wrote' waits (flat_map ended more) waits'

-- After whichever lines and sayings it stood before the line with this number, more is said, and then it stands after the
-- line too, where the text is said last.
abbrev pub Answers : (After Script After' : List (List ℕ) → List (List ℕ) → Type 0) → (kept : Option (List ℕ)) → (number : ℕ) → (wrote wrote' : Option (List ℕ)) → (waits waits' text : List ℕ) → Type 0
Answers After Script After' kept number wrote wrote' waits waits' text = (lines said : List (List ℕ)) (it : List ℕ) → After lines said → kept ≡ kept_line it → number ≡ length lines + 1 →
    (before : List (List ℕ)) × (more : List (List ℕ)) × Script lines (said ++ before) × Gathers wrote wrote' waits (flat_map ended before) waits'
    × After' (lines ++ it ∷ []) ((said ++ before) ++ more) × (text ≡ flat_map ended more)

-- After whichever lines and sayings it stood before the line with this number, the text is said, and then it stands after
-- that line.
abbrev pub AnswersAtOnce : (After After' : List (List ℕ) → List (List ℕ) → Type 0) → (kept : Option (List ℕ)) → (number : ℕ) → (text : List ℕ) → Type 0
AnswersAtOnce After After' kept number text = (lines said : List (List ℕ)) (it : List ℕ) → After lines said → kept ≡ kept_line it → number ≡ length lines + 1 →
    (more : List (List ℕ)) × After' (lines ++ it ∷ []) (said ++ more) × (text ≡ flat_map ended more)

-- Internal from here on: no contract of a main call reaches what follows.

-- More is said, and the script allows it of the lines before the line with this number, or of that line too.
abbrev pub SaysInPart : (After Script : List (List ℕ) → List (List ℕ) → Type 0) → (kept : Option (List ℕ)) → (number : ℕ) → (wrote wrote' : Option (List ℕ)) → (waits waits' : List ℕ) → Type 0
SaysInPart After Script kept number wrote wrote' waits waits' = (lines said : List (List ℕ)) (it : List ℕ) → After lines said → kept ≡ kept_line it → number ≡ length lines + 1 →
    (done : List (List ℕ)) × (others : List (List ℕ)) × (more : List (List ℕ)) × (lines ++ it ∷ [] ≡ done ++ others)
    × Script done (said ++ more) × Gathers wrote wrote' waits (flat_map ended more) waits'
