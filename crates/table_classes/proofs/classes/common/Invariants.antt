use Rattle.std.proofs.Common.{◌≡◌, ◌<◌, ℕ}
use Rattle.std.specs.Int.{bit_at}
use Rattle.table_classes.specs.Classes.{IsUnsetIn}
use Rattle.table_classes.proofs.classes.common.Given as goal

abbrev pub invariant-loop-row : goal.invariant-loop-row
invariant-loop-row l = (i : ℕ) → i < 64 → bit_at l.word i ≡ 0 → IsUnsetIn l.rows l.place i
