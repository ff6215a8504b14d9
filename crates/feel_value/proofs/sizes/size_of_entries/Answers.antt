use Rattle.std.proofs.Common.{◌∙◌, sym}
use Rattle.feel_value.proofs.Sums.{entries_step}
use Rattle.feel_value.proofs.sizes.size_of_entries.Goals as goal

pub loop-value-preserved : goal.loop-value-preserved
loop-value-preserved c = record {
  left = c.loop-value.invariant.left ∙ entries_step c.loop-value.size c.in_ok-size.field-0 c.in_ok-size-2.size c.args.entries.now c.loop-value.value-index c.loop-value-item.result
      c.loop-value-item.is c.loop-value-test.true (sym c.size.ensures ∙ c.in_ok-size.was) (sym c.grown.ensures.size ∙ c.in_ok-size-2.was);
  kept = c.in_ok-size-2.ensures.kept;
}
