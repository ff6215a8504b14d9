-- What the code's findings and notes stand for.
use Rattle.std.specs.Prelude.{List, map}
use Rattle.dmn_check.specs.Findings.{Finding}
use Rattle.dmn_check.specs.Notes.{Notes}
use Rattle.dmn_check.specs.declared.finding.Finding as finding
use Rattle.dmn_check.specs.declared.notes.Notes as notes

abbrev pub finding_view : finding.Finding → Finding
finding_view f = record { place = f.place.steps.items; mistake = f.mistake }

abbrev pub findings_view : List finding.Finding → List Finding
findings_view fs = map finding_view fs

abbrev pub notes_view : notes.Notes → Notes
notes_view c = record { path = c.path.items; findings = findings_view c.findings.items; count = c.count }
