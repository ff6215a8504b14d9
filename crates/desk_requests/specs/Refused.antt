-- The lines that `serve` refuses.
use Rattle.std.specs.Prelude.{ℕ, List, [], ◌∷◌, None, Some}
use Rattle.std.specs.List.{flat_map}
use Rattle.desk_wire.specs.Reading.{Reading}
use Rattle.desk_wire.specs.Reports.{Report, Loaded, Faulty, Refused, Of, Reply}
use Rattle.desk_wire.specs.declared.report.Told.{Told}
use Rattle.desk_wire.specs.declared.report.Told.TheVariants as told
use Rattle.desk_wire.specs.declared.word.Word.{Word}
use Rattle.desk_wire.specs.declared.word.Word.TheVariants as word
use Rattle.desk_requests.specs.Due.{answer, answers}
use Rattle.desk_requests.specs.Line.{Line}
use Rattle.desk_requests.specs.declared.refused.RefusedLine.{RefusedLine}

-- the line with this number, refused with this word
abbrev pub refused : ℕ → Word → RefusedLine
refused k why = record { number = k; why = why; fault = None }

-- what is refused of a client's line
abbrev pub refused_of_client : ℕ → Told → List RefusedLine
refused_of_client k (told.Refused why) = refused k why ∷ []
refused_of_client k what = []

-- the line that a report refuses, if it refuses one
abbrev pub refused_by : Report → List RefusedLine
refused_by (Faulty k fault) = record { number = k; why = word.Model; fault = Some fault } ∷ []
refused_by (Refused k why) = refused k why ∷ []
refused_by (Of c k what) = refused_of_client k what
refused_by report = []

-- whether the line behind these is refused, where there are so many lanes
abbrev pub refused_at : ℕ → List (Reading Line) → Reading Line → List RefusedLine
refused_at lanes earlier reading = flat_map refused_by (answer lanes earlier reading)

-- which of these lines are refused, in their order
abbrev pub refused_lines : ℕ → List (Reading Line) → List RefusedLine
refused_lines lanes readings = flat_map refused_by (answers lanes readings)
