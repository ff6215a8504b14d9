use Rattle.std.proofs.Common.{◌≡◌, drop}
use Rattle.desk_checking.specs.Domains.{has_empty_part}
use Rattle.desk_checking.proofs.EmptyParts.{empty_along}
use Rattle.desk_checking.proofs.domains.has_empty_part.Given as goal

abbrev pub invariant-loop-byte : goal.invariant-loop-byte
invariant-loop-byte l = has_empty_part l.fn.path ≡ empty_along l.is_empty (drop l.byte-index l.bytes)
