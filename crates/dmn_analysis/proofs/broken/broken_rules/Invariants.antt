use Rattle.std.proofs.Common.{◌≡◌, [], take, map}
use Rattle.std.specs.List.{All}
use Rattle.feel_value.specs.Datum.{null}
use Rattle.dmn_table.specs.Parts.{rule_view}
use Rattle.dmn_analysis.specs.Constant.{AreConstant}
use Rattle.dmn_analysis.proofs.KeptLimits.{Keeps}
use Rattle.dmn_analysis.proofs.broken.broken_rules.Given as goal

abbrev pub invariant-loop-place : goal.invariant-loop-place
invariant-loop-place l = (l.broken.items ≡ [] → All (Keeps null) (take l.place l.rules)) × (AreConstant (map rule_view l.rules) → l.broken.items ≡ [])
