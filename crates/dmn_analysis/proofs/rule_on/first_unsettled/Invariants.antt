use Rattle.std.proofs.Common.{◌≡◌, true, ℕ, ◌<◌, Some}
use Rattle.std.specs.List.{slice_get}
use Rattle.feel_text.specs.Tests.{Tests}
use Rattle.dmn_analysis.proofs.RulesOn.{IsSettled}
use Rattle.dmn_analysis.proofs.rule_on.first_unsettled.Given as goal

abbrev pub invariant-loop-place : goal.invariant-loop-place
invariant-loop-place l = (k : ℕ) (t : Tests) → k < l.place → slice_get l.row.tests k ≡ Some t → IsSettled true l.words l.cells k t
