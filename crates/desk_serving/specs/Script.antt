-- Which lines are said to which.
use Rattle.std.specs.Prelude.{◌≡◌, ℕ, Bool, true, false, List, ◌++◌, Option, Some, None, map, filter, reverse, bytes_eq}
use Rattle.desk_wire.specs.Reading.{Reading}
use Rattle.desk_wire.specs.Reports.{Report, client_on, report_text}
use Rattle.desk_requests.specs.Line.{Line, AreRead}
use Rattle.desk_requests.specs.Due.{answers}

abbrev pub same_client : Option (List ℕ) → Option (List ℕ) → Bool
same_client None None = true
same_client None (Some n) = false
same_client (Some m) None = false
same_client (Some m) (Some n) = bytes_eq m n

-- the reports to one client, or to none, in their order
abbrev pub of_client : Option (List ℕ) → List Report → List Report
of_client who reports = filter (λ report. same_client (client_on report) who) reports

abbrev pub texts_of : List Report → List (List ℕ)
texts_of reports = map (λ report. report_text report) reports

-- The output has, for each client and for none, just the answers to its lines, in the order of the lines. No order is said
-- between clients.
pub record Served (lanes : ℕ) (lines written : List (List ℕ)) : Type 0 where
  pub readings : List (Reading Line)
  pub read : AreRead (reverse lines) readings
  pub said : List Report
  pub output : written ≡ texts_of said
  pub each : (who : Option (List ℕ)) → of_client who said ≡ of_client who (answers lanes readings)

-- The output has, for each client and for none, the first of the answers to its lines, in the order of the lines.
pub record ServedInPart (lanes : ℕ) (lines written : List (List ℕ)) : Type 0 where
  pub readings : List (Reading Line)
  pub read : AreRead (reverse lines) readings
  pub said : List Report
  pub output : written ≡ texts_of said
  pub each : (who : Option (List ℕ)) → (rest : List Report) × (of_client who said ++ rest ≡ of_client who (answers lanes readings))
