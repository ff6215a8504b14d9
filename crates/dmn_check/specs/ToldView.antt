-- What the code's findings stand for.
use Rattle.dmn_check.specs.Told.{Told}
use Rattle.dmn_check.specs.NotesView.{findings_view}
use Rattle.dmn_check.specs.declared.told.Told as told

abbrev pub told_view : told.Told → Told
told_view t = record { findings = findings_view t.findings.items; count = t.count }
