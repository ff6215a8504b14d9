use Rattle.std.proofs.Common.{◌≡◌, ◌∙◌, ℕ, ◌<◌, ◌≤◌, ◌+◌, arith, inl, inr, length, get_or}
use Rattle.std.specs.Prelude.{bit_or}
use Rattle.std.proofs.lemmas.Bool.{cases_lt}
use Rattle.std.proofs.lemmas.List.{length-set}
use Rattle.table_classes.specs.Spans.{IsUnsetAt}
use Rattle.table_classes.proofs.Marking.{kept, set_there, with_bit}
use Rattle.table_classes.proofs.spans.set_bits.Goals as goal

pub loop-k-preserved : goal.loop-k-preserved
loop-k-preserved c =
    let words = c.loop-k.words in
    let k = c.loop-k.k in
    let bit = c.args.bit in
    let inside : k < length words = omega (arith, c.loop-k-test.true, c.min-k-end.ensures, c.loop-k.invariant.0) in (
      length-set words k _ ∙ c.loop-k.invariant.0,
      (λ place i h. c.loop-k.invariant.1 place i (kept words k bit place i inside h)),
      (λ place from less h. elim (cases_lt place k) [
        | inl before ↦ c.loop-k.invariant.2 place from before (kept words k bit place bit inside h)
        | inr more ↦ set_there words k bit place inside c.requires (omega (arith, less, more)) h
      ]),
    )

pub returns-clause-set : goal.returns-clause-set
returns-clause-set c = λ place from less h. c.loop-k.invariant.2 place from (omega (arith, less, h.within, c.loop-k-test.false, c.min-k-end.ensures, c.loop-k.invariant.0)) h
