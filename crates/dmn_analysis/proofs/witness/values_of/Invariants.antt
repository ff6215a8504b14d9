use Rattle.std.proofs.Common.{◌≡◌, true, length}
use Rattle.std.specs.List.{All}
use Rattle.feel_value.specs.Limits.{is_value}
use Rattle.dmn_analysis.proofs.Witnesses.{AreInFirst}
use Rattle.dmn_analysis.proofs.witness.values_of.Given as goal

abbrev pub invariant-loop-place : goal.invariant-loop-place
invariant-loop-place l = (length l.values.items ≡ l.place) × AreInFirst l.words l.cells l.values.items × All (λ v. is_value v ≡ true) l.values.items
