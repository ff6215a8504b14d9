use Rattle.std.proofs.Common.{◌≡◌, ◌≤◌, length}
use Rattle.dmn_ranges.specs.Columns.{IsWider}
use Rattle.dmn_ranges.proofs.wider.either_columns.Given as goal

abbrev pub invariant-loop-place : goal.invariant-loop-place
invariant-loop-place l = record { count : length l.columns.items ≡ l.place; one : IsWider l.one l.columns.items; other : IsWider l.other l.columns.items }
