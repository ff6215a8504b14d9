use Rattle.std.proofs.Common.{◌≡◌, length}
use Rattle.dmn_ranges.specs.Asking.{AskColumns}
use Rattle.dmn_ranges.proofs.asking.columns_asked.Given as goal

abbrev pub invariant-loop-column : goal.invariant-loop-column
invariant-loop-column l = record { count : length l.asked.items ≡ l.column-index; told : AskColumns l.columns l.asked.items }
