-- What is told of a list of findings.
use Rattle.std.specs.Prelude.{ℕ, List, [], ◌∷◌, Bool, true, false, length, take, nat_lt, if◌then◌else◌}
use Rattle.dmn_check.specs.Findings.{Finding}
use Rattle.dmn_check.specs.Notes.{most_findings, most_counted}

-- the first findings, and how many there are
pub record Told : Type 0 where
  pub findings : List Finding
  pub count : ℕ

-- a number, or the most that is counted where it is larger
abbrev pub capped : ℕ → ℕ
capped n = if nat_lt n most_counted then n else most_counted

abbrev pub first_of : List Finding → Told
first_of fs = record { findings = take most_findings fs; count = capped (length fs) }

-- whether there is a finding
abbrev pub have_any : List Finding → Bool
have_any [] = false
have_any (f ∷ fs) = true
