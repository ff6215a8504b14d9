use Rattle.std.proofs.Common.{◌≡◌, ◌≤◌, length}
use Rattle.dmn_ranges.specs.Columns.{AreWider}
use Rattle.dmn_ranges.proofs.wider.either_tables.Given as goal

abbrev pub invariant-loop-place : goal.invariant-loop-place
invariant-loop-place l = record { count : length l.tables.items ≡ l.place; one : AreWider l.one l.tables.items; other : AreWider l.other l.tables.items }
