-- The first findings of a list, and how many there are.
use Rattle.std.specs.Prelude.{ℕ, suc, ◌-◌, List, [], ◌∷◌, ◌++◌, length, take, nat_lt, if◌then◌else◌}
use Rattle.dmn_check.specs.declared.place.Step.{Step}
use Rattle.dmn_check.specs.declared.finding.Mistake.{Mistake}
use Rattle.dmn_check.specs.Findings.{Place, Finding}

-- how many findings are kept
abbrev pub most_findings : ℕ
most_findings = 100

-- the most that is counted
abbrev pub most_counted : ℕ
most_counted = 18446744073709551615

-- the way to where a walk is, the first findings so far, and how many there are
pub record Notes : Type 0 where
  pub path : Place
  pub findings : List Finding
  pub count : ℕ

abbrev pub empty : Notes
empty = record { path = []; findings = []; count = 0 }

-- the notes once the walk goes by a step
abbrev pub into : Step → Notes → Notes
into s c = record { path = c.path ++ s ∷ []; findings = c.findings; count = c.count }

-- the notes once the walk goes back a step
abbrev pub out : Notes → Notes
out c = record { path = take (length c.path - 1) c.path; findings = c.findings; count = c.count }

-- a finding of the part where the walk is, as one of the model
abbrev pub from : Place → Finding → Finding
from path f = record { place = path ++ f.place; mistake = f.mistake }

abbrev pub kept : List Finding → Finding → List Finding
kept fs f = if nat_lt (length fs) most_findings then fs ++ f ∷ [] else fs

abbrev pub counted : ℕ → ℕ
counted n = if nat_lt n most_counted then suc n else n

-- the notes with one more finding of the part where the walk is
abbrev pub with_one : Notes → Finding → Notes
with_one c f = record { path = c.path; findings = kept c.findings (from c.path f); count = counted c.count }

-- the notes with these findings of the part where the walk is
abbrev pub with_all : Notes → List Finding → Notes
with_all c [] = c
with_all c (f ∷ fs) = with_all (with_one c f) fs

-- the notes with a mistake of the part where the walk is
abbrev pub noted : Mistake → Notes → Notes
noted w c = with_one c (record { place = []; mistake = w })
