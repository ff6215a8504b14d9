use Rattle.std.proofs.Common.{◌≡◌}
use Rattle.rtrb.specs.Ring.{received}
use Rattle.desk_lines.proofs.pieces.next_given.Given as goal

abbrev pub invariant-loop : goal.invariant-loop
invariant-loop g l = received l.ring ≡ received l.initial.ring
