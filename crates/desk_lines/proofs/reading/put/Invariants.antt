use Rattle.std.proofs.Common.{◌≡◌}
use Rattle.rtrb.specs.Ring.{sent}
use Rattle.desk_lines.proofs.reading.put.Given as goal

abbrev pub invariant-loop : goal.invariant-loop
invariant-loop g l = (sent l.ring ≡ sent l.initial.ring) × (l.item ≡ l.initial.item)
