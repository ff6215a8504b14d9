use Rattle.std.proofs.Common.{◌≡◌, ◌++◌, drop, false}
use Rattle.desk_wire.specs.Holding.{line_of, members_of}
use Rattle.desk_wire.proofs.object.add_members.Given as goal

abbrev pub invariant-loop-key : goal.invariant-loop-key
invariant-loop-key l = l.line.items ++ line_of l.later (members_of (drop l.key-index l.members)) ≡ l.initial.line.items ++ line_of false (members_of l.members)
