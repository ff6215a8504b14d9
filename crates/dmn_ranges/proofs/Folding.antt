-- How large the numbers are that are known of the first members of a list.
use Rattle.std.proofs.Common.{ℕ, ◌+◌, ◌≤◌, Option, None, Some, arith}
use Rattle.dmn_ranges.specs.Folds.{IsNearIf}
use Rattle.dmn_ranges.specs.Numbers.{AreNear}
use Rattle.dmn_ranges.specs.declared.folded.Folded.{Folded}
use Rattle.dmn_ranges.specs.declared.span.Span.{Span}
use Rattle.dmn_ranges.proofs.Spans.{wider_apart}

pub near_fewer : (m n : ℕ) (g : Option Folded) → m ≤ n → IsNearIf m g → IsNearIf n g
near_fewer m n None h k = tt
near_fewer m n (Some g) h k = wider_apart m n g.numbers h k

pub near_first : (n : ℕ) (s : Option Span) → AreNear 1 s → AreNear (n + 1) s
near_first n s k = wider_apart 1 (n + 1) s (omega arith) k
