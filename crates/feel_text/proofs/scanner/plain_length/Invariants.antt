use Rattle.std.proofs.Common.{◌≡◌, ◌<◌, ℕ, true, get_or}
use Rattle.feel_text.specs.Scanning.{is_plain}
use Rattle.feel_text.proofs.scanner.plain_length.Given as goal

abbrev pub invariant-loop-i : goal.invariant-loop-i
invariant-loop-i l = (k : ℕ) → k < l.i → is_plain (get_or l.text k 0) ≡ true
