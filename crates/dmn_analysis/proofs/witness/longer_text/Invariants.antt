use Rattle.std.proofs.Common.{◌<◌, length}
use Rattle.std.specs.Prelude.{string_bytes}
use Rattle.dmn_analysis.proofs.witness.longer_text.Given as goal

abbrev pub invariant-loop-place : goal.invariant-loop-place
invariant-loop-place l = l._place < length (string_bytes l.text)
