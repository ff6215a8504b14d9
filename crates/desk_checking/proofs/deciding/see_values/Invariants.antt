use Rattle.std.proofs.Common.{◌≡◌, take, true}
use Rattle.std.specs.List.{All}
use Rattle.feel_value.specs.Limits.{is_value}
use Rattle.dmn_analysis.specs.Asked.{is_in_utf8}
use Rattle.desk_checking.proofs.deciding.see_values.Given as goal

abbrev pub invariant-loop-value : goal.invariant-loop-value
invariant-loop-value l = All (λ v. (is_value v ≡ true) × (is_in_utf8 v ≡ true)) (take l.value-index l.values)
