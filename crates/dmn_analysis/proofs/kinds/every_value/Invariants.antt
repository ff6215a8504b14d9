use Rattle.std.proofs.Common.{◌≡◌, true}
use Rattle.std.specs.List.{All}
use Rattle.feel_value.specs.Datum.{Datum}
use Rattle.dmn_analysis.specs.Asked.{is_asked, is_in_utf8}
use Rattle.dmn_analysis.proofs.kinds.every_value.Given as goal

abbrev pub invariant-loop-place : goal.invariant-loop-place
invariant-loop-place l = All (λ a. (v : Datum) → is_in_utf8 v ≡ true → is_asked a v ≡ true) l.asked.items
