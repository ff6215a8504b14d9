use Rattle.std.proofs.Common.{arith, ◌∙◌, sym, length}
use Rattle.std.proofs.lemmas.List.Sums.{prefix_len_is}
use Rattle.desk_checking.specs.Input.{goes_on}
use Rattle.desk_checking.proofs.cut.line_length.Goals as goal

pub returns-then-not-goes_on-clause-length : goal.returns-then-not-goes_on-clause-length
returns-then-not-goes_on-clause-length c =
    sym (prefix_len_is goes_on c.args.text.now c.loop-i.i 0 (omega arith) c.loop-i.invariant (λ h. sym c.goes_on.ensures ∙ c.if-not-goes_on.true))

pub returns-clause-length : goal.returns-clause-length
returns-clause-length c =
    sym (prefix_len_is goes_on c.args.text.now (length c.args.text.now) 0 (omega arith) (λ k h. c.loop-i.invariant k (omega arith)) (λ h. absurd (omega arith)))
