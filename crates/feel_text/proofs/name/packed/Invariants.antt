use Rattle.std.proofs.Common.{◌≡◌, take}
use Rattle.feel_text.specs.Packed.{digits}
use Rattle.feel_text.proofs.name.packed.Given as goal

abbrev pub invariant-loop-byte : goal.invariant-loop-byte
invariant-loop-byte l = digits l.byte-index l.number ≡ take l.byte-index l.bytes
