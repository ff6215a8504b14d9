-- Internal, cited by no public contract: what a look finds in members and entries as the code has them.
use Rattle.std.specs.Prelude.{ℕ, List, ◌++◌, map, String, string_bytes}
use Rattle.std.specs.declared.alloc.Global.{Global}
use Rattle.dmn_form.specs.Model.{members_of, entries_of}
use Rattle.dmn_form.specs.LogicView.{logic_view, entry_view}
use Rattle.dmn_form.specs.declared.written.WrittenLogic.{WrittenLogic}
use Rattle.dmn_check.specs.declared.place.Step.TheVariants as step
use Rattle.dmn_check.specs.declared.place.Key.TheVariants as key
use Rattle.dmn_check.specs.Findings.{Finding, behind}
use Rattle.dmn_check.specs.Look.{Look, member_findings, entry_findings}

abbrev pub members_findings_view : Look → ℕ → List WrittenLogic → List Finding
members_findings_view k i bs = member_findings k i (members_of (map logic_view bs))

abbrev pub entries_findings_view : Look → ℕ → List (String Global × WrittenLogic) → List Finding
entries_findings_view k i es = entry_findings k i (entries_of (map entry_view es))

abbrev pub context_findings_view : Look → List (String Global × WrittenLogic) → List Finding
context_findings_view k es = behind (step.Key key.Context) (k.entries (map (λ e. string_bytes e.0) es) ++ entries_findings_view k 0 es)
