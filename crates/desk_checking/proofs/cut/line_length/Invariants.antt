use Rattle.std.proofs.Common.{◌≡◌, ◌<◌, ℕ, true, get_or}
use Rattle.desk_checking.specs.Input.{goes_on}
use Rattle.desk_checking.proofs.cut.line_length.Given as goal

abbrev pub invariant-loop-i : goal.invariant-loop-i
invariant-loop-i l = (k : ℕ) → k < l.i → goes_on (get_or l.text k 0) ≡ true
