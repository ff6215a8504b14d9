-- Which lines are said to which.
use Rattle.std.specs.Prelude.{◌≡◌, ℕ, Bool, List, [], ◌∷◌, ◌++◌, reverse}
use Rattle.desk_wire.specs.Reading.{Reading}
use Rattle.desk_requests.specs.Line.{Line, AreRead}
use Rattle.desk_explaining.specs.Due.{IsAnswer}

-- these lines are said to those that were read so, each answer in its turn; what was read stands newest first
abbrev pub AreAnswered : Bool → ℕ → List (Reading Line) → List (List ℕ) → Type 0
AreAnswered misses lanes [] said = said ≡ []
AreAnswered misses lanes (reading ∷ earlier) said =
    (before : List (List ℕ)) × (last : List (List ℕ)) × AreAnswered misses lanes earlier before × IsAnswer misses lanes earlier reading last
    × (said ≡ before ++ last)

-- the output has the answer to each line, in the order of the lines
pub record Script (misses : Bool) (lanes : ℕ) (lines output : List (List ℕ)) : Type 0 where
  pub readings : List (Reading Line)
  pub read : AreRead (reverse lines) readings
  pub said : AreAnswered misses lanes readings output
