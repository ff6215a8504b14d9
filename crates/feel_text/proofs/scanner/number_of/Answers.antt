use Rattle.std.proofs.Common.{arith, ◌≡◌, ◌<◌, ◌+◌, ◌-◌, ◌*◌, ◌∙◌, ap, sym, ℕ, List, drop, get_or}
use Rattle.feel_text.specs.Lexical.{number_from}
use Rattle.feel_value.specs.Limits.{greatest_number}
use Rattle.feel_text.proofs.Runs.{number_passes, drop_more}
use Rattle.feel_text.proofs.scanner.number_of.Goals as goal

pub returns-then-value-digit : goal.returns-then-value-digit
returns-then-value-digit c =
    let more = drop_more c.args.word.now c.loop-byte.byte-index (omega arith) in
    let same : get_or c.as_bytes-byte-items.result.now c.loop-byte.byte-index 0 ≡ get_or c.args.word.now c.loop-byte.byte-index 0 = ap (λ (bs : List ℕ). get_or bs c.loop-byte.byte-index 0) c.as_bytes-byte-items.ensures.value in
    let over : greatest_number < 10 * c.loop-byte.value + (get_or c.args.word.now c.loop-byte.byte-index 0 - 48) = omega arith in
    sym (number_passes c.args.word.now (drop (c.loop-byte.byte-index + 1) c.args.word.now) (get_or c.args.word.now c.loop-byte.byte-index 0) c.loop-byte.value
    (sym (ap (number_from c.loop-byte.value) more) ∙ c.loop-byte.invariant.value) over)
