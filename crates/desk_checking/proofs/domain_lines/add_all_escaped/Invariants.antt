use Rattle.std.proofs.Common.{◌≡◌, ◌++◌, drop}
use Rattle.dmn_check.specs.Pointer.{escaped}
use Rattle.desk_checking.proofs.domain_lines.add_all_escaped.Given as goal

-- with the bytes that are left those of all stand there
abbrev pub invariant-loop-byte : goal.invariant-loop-byte
invariant-loop-byte l = l.text.items ++ escaped (drop l.byte-index l.bytes) ≡ l.fn.text.items ++ escaped l.bytes
