-- The lines of requests behind a model that `serve` refuses.
use Rattle.std.specs.Prelude.{◌≡◌, ◌<◌, ◌++◌, ℕ, List, [], ◌∷◌, length, reverse, take}
use Rattle.serde_json.specs.Data.{Data}
use Rattle.desk_wire.specs.Reading.{Reading, Says}
use Rattle.desk_requests.specs.Line.{AreRead, Line, Model}
use Rattle.desk_requests.specs.Refused.{refused_lines}
use Rattle.desk_requests.specs.declared.refused.RefusedLine.{RefusedLine}

-- the most lines of which it is told that they are refused
abbrev pub most_refused : ℕ
most_refused = 1000

-- These are the first lines that `serve` refuses of those behind this model, where it has a lane for each client, and so many it does.
pub record AreRefused (model : Data) (lines : List (List ℕ)) (first : List RefusedLine) (count : ℕ) : Type 0 where
  pub readings : List (Reading Line)
  pub read : AreRead (reverse lines) readings
  pub first_are : (lanes : ℕ) → length lines < lanes → first ≡ take most_refused (refused_lines lanes (readings ++ Says (Model model) ∷ []))
  pub count_is : (lanes : ℕ) → length lines < lanes → count ≡ length (refused_lines lanes (readings ++ Says (Model model) ∷ []))
