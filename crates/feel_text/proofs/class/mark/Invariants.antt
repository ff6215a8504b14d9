use Rattle.std.proofs.Common.{◌≡◌, ◌<◌, drop}
use Rattle.feel_text.specs.Classes.{mark_of, marked}
use Rattle.feel_text.proofs.class.mark.Given as goal

abbrev pub invariant-loop-byte : goal.invariant-loop-byte
invariant-loop-byte l = (l.mark < 64) × (mark_of l.text ≡ marked l.mark (drop l.byte-index l.first))
