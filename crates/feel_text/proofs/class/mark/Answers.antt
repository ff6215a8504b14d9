use Rattle.std.proofs.Common.{◌%◌, length, take, ap, sym, ◌∙◌, arith}
use Rattle.std.proofs.lemmas.List.{take_min}
use Rattle.std.proofs.Math.Nat.{mod-lt}
use Rattle.feel_text.specs.Classes.{mark_of, marked}
use Rattle.feel_text.proofs.class.mark.Goals as goal

pub loop-byte-init : goal.loop-byte-init
loop-byte-init c =
    let bytes = c.as_bytes-bytes.result.now in
    let begun = length bytes % 64 in (
      mod-lt (length bytes) (omega arith),
      sym (ap (λ n. marked begun (take n bytes)) c.min.ensures ∙ ap (marked begun) (take_min 64 bytes) ∙ ap mark_of c.as_bytes-bytes.ensures.value),
    )
