use Rattle.std.proofs.Common.{◌≡◌, ◌∙◌, ◌<◌, ◌+◌, arith, inl, inr, length}
use Rattle.std.proofs.lemmas.Bool.{cases_lt}
use Rattle.std.proofs.lemmas.List.{length-set}
use Rattle.std.proofs.lemmas.Option.{slice_get_within}
use Rattle.table_classes.proofs.Marking.{kept, set_there}
use Rattle.table_classes.proofs.classes.mark_asked.Goals as goal

pub loop-k-preserved : goal.loop-k-preserved
loop-k-preserved c =
    let words = c.loop-k.words in
    let k = c.loop-k.k in
    let bit = c.args.bit in
    let inside : k < length words = omega (arith, c.loop-k-test.true, c.min-k-end.ensures, c.loop-k.invariant.count) in
    record {
      count = length-set words k _ ∙ c.loop-k.invariant.count;
      kept = λ place i unset. c.loop-k.invariant.kept place i (kept words k bit place i inside unset);
      told = λ place class less has unset. elim (cases_lt place k) [
        | inl before ↦ c.loop-k.invariant.told place class before has (kept words k bit place bit inside unset)
        | inr more ↦ absurd (set_there words k bit place inside c.requires (omega (arith, less, more)) unset)
      ];
    }

pub returns-clause-told : goal.returns-clause-told
returns-clause-told c = λ place class has unset.
    c.loop-k.invariant.told place class
    (omega (arith, slice_get_within c.args.classes.now place class has, unset.within, c.loop-k-test.false, c.min-k-end.ensures, c.loop-k.invariant.count)) has unset
