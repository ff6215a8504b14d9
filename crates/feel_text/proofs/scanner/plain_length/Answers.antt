use Rattle.std.proofs.Common.{arith, ◌≡◌, ◌∙◌, sym, ap, ℕ, List, length, get_or}
use Rattle.feel_text.specs.Scanning.{is_plain}
use Rattle.feel_text.proofs.Strings.{plain_is, plain_boundary}
use Rattle.feel_text.proofs.scanner.plain_length.Goals as goal

pub returns-then-not-is_plain-clause-length : goal.returns-then-not-is_plain-clause-length
returns-then-not-is_plain-clause-length c =
    plain_is c.args.text.now c.loop-i.i (omega arith) c.loop-i.invariant (λ h. ap (λ (bs : List ℕ). is_plain (get_or bs c.loop-i.i 0)) (sym c.as_bytes-byte-items.ensures.value) ∙ sym c.is_plain.ensures ∙ c.if-not-is_plain.true)

pub returns-then-not-is_plain-clause-boundary : goal.returns-then-not-is_plain-clause-boundary
returns-then-not-is_plain-clause-boundary c =
    plain_boundary c.args.text.now c.loop-i.i (omega arith) (ap (λ (bs : List ℕ). is_plain (get_or bs c.loop-i.i 0)) (sym c.as_bytes-byte-items.ensures.value) ∙ sym c.is_plain.ensures ∙ c.if-not-is_plain.true)

pub returns-clause-length : goal.returns-clause-length
returns-clause-length c =
    let end : c.loop-i.i ≡ length c.args.text.now = omega arith in
    plain_is c.args.text.now (length c.args.text.now) (omega arith) (λ k h. c.loop-i.invariant k (omega arith)) (λ h. absurd (omega arith))
