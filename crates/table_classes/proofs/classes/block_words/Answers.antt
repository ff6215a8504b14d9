use Rattle.std.proofs.Common.{◌≡◌, ◌∙◌, sym, ap, subst, ℕ, ◌<◌, ◌+◌, ◌++◌, List, get_or, length, map, drop, take, Some, arith}
use Rattle.std.specs.List.{slice_get}
use Rattle.std.specs.Int.{bit_at}
use Rattle.std.proofs.lemmas.List.{length-map}
use Rattle.std.proofs.lemmas.Option.{slice_get-get_or}
use Rattle.std.proofs.Math.Seq.{take-append_seam}
use Rattle.feel_text.specs.Tests.{Tests}
use Rattle.table_classes.specs.Spans.{IsUnsetAt}
use Rattle.table_classes.specs.Unbroken.{KeepLimits}
use Rattle.table_classes.proofs.ClassWords.{entries_at}
use Rattle.table_classes.proofs.Marked.{TellsMarked, block_told_by, marked_more}
use Rattle.table_classes.proofs.classes.block_words.Goals as goal

pub loop-i-preserved : goal.loop-i-preserved
loop-i-preserved g c =
    let rules = map g.R.HasTests.tests_of c.args.rules.now in
    let n = c.loop-i.i in
    let old = c.loop-i.words.items in
    let new = c.mark.new.words in
    let rule = c.tests.result.now in
    let within : n < length c.args.rules.now = omega (arith, c.loop-i-test.true, c.min-i-end.ensures) in
    let there : slice_get rules n ≡ Some rule =
    slice_get-get_or rules n rule (omega (arith, within, length-map c.args.rules.now g.R.HasTests.tests_of))
    ∙ ap Some (sym (entries_at g.R.HasTests.tests_of c.args.rules.now n c.index-rules-i.result rule within c.index-rules-i.is c.tests.ensures)) in
    let kept : (k i : ℕ) → IsUnsetAt new k i → IsUnsetAt old k i = λ k i unset. subst (λ ws. IsUnsetAt ws k i) c.deref_mut.ensures.value (c.mark.ensures.kept k i unset) in
    let whole : take c.loop-i.words.len (new ++ drop (length new) old) ≡ new =
    ap (λ m. take m (new ++ drop (length new) old)) (sym (c.mark.ensures.length ∙ c.deref_mut.ensures.len)) ∙ take-append_seam new (drop (length new) old) in
    record {
      marked = subst (TellsMarked (n + 1) rules c.args.column c.args.classes.now) (sym whole)
          (marked_more n rules c.args.column c.args.classes.now old new rule c.loop-i.invariant.marked kept there c.mark.ensures.told);
      keeps = λ k i r small at unset. c.loop-i.invariant.keeps k i r small at (kept k i (subst (λ ws. IsUnsetAt ws k i) whole unset));
    }

pub returns : goal.returns
returns g c =
    block_told_by c.loop-i.i (map g.R.HasTests.tests_of c.args.rules.now) c.args.column c.args.classes.now c.loop-i.words.items c.loop-i.invariant.marked
    (λ i small inside. omega (arith, small, inside, length-map c.args.rules.now g.R.HasTests.tests_of, c.loop-i-test.false, c.min-i-end.ensures))
    c.loop-i.invariant.keeps
