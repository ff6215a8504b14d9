use Rattle.std.proofs.Common.{◌≡◌, ◌<◌, ℕ, map, Some, IsTrue}
use Rattle.std.specs.List.{slice_get, All}
use Rattle.dmn_table.specs.Parts.{rule_view}
use Rattle.dmn_analysis.specs.Constant.{AreConstant}
use Rattle.dmn_analysis.specs.Joining.{AreMissed}
use Rattle.dmn_analysis.specs.Searching.{IsBare, Scene}
use Rattle.dmn_analysis.specs.Telling.{IsDealtWith, IsToldGap}
use Rattle.dmn_analysis.specs.declared.gaps.Bare.{Bare}
use Rattle.dmn_analysis.proofs.gap_answers.tell.Given as goal

abbrev pub invariant-loop-place : goal.invariant-loop-place
invariant-loop-place l =
    ((s : Scene) → s.rules ≡ map rule_view l.rules → All (IsBare s) l.bare → All (IsToldGap s l.count) l.found.items)
    × (IsTrue l.is_all → (k : ℕ) (b : Bare) → k < l.place → slice_get l.bare k ≡ Some b → IsDealtWith l.words l.found.items b.cells.items)
    × (AreConstant (map rule_view l.rules) → All (AreMissed l.words (map rule_view l.rules) l.count) l.bare → IsTrue l.is_all)
