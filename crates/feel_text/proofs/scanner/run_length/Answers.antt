use Rattle.std.proofs.Common.{arith, ◌≡◌, ◌∙◌, sym, ap, ℕ, List, length, get_or}
use Rattle.feel_text.specs.Lexical.{is_word_byte}
use Rattle.feel_text.proofs.Runs.{run_is, run_boundary}
use Rattle.feel_text.proofs.scanner.run_length.Goals as goal

pub returns-then-not-is_word_byte-clause-length : goal.returns-then-not-is_word_byte-clause-length
returns-then-not-is_word_byte-clause-length c =
    run_is c.args.text.now c.loop-i.i (omega arith) c.loop-i.invariant (λ h. ap (λ (bs : List ℕ). is_word_byte (get_or bs c.loop-i.i 0)) (sym c.as_bytes-byte-items.ensures.value) ∙ sym c.is_word_byte.ensures ∙ c.if-not-is_word_byte.true)

pub returns-then-not-is_word_byte-clause-boundary : goal.returns-then-not-is_word_byte-clause-boundary
returns-then-not-is_word_byte-clause-boundary c = run_boundary c.args.text.now c.loop-i.i c.utf8.text (omega arith) c.loop-i.invariant

pub returns-clause-length : goal.returns-clause-length
returns-clause-length c =
    let end : c.loop-i.i ≡ length c.args.text.now = omega arith in
    run_is c.args.text.now (length c.args.text.now) (omega arith) (λ k h. c.loop-i.invariant k (omega arith)) (λ h. absurd (omega arith))
