use Rattle.std.proofs.Common.{◌≡◌, ◌∙◌, sym, ap, ap₂, ◌+◌, ◌-◌, ◌<◌, arith, length, true}
use Rattle.std.proofs.lemmas.List.{get_or_default}
use Rattle.table_classes.specs.Spans.{precedes, class_at}
use Rattle.table_classes.proofs.Rising.{one_more}
use Rattle.table_classes.proofs.spans.rising.Goals as goal

pub loop-count-preserved : goal.loop-count-preserved
loop-count-preserved c =
    let classes = c.args.classes.now in
    let count = c.loop-count.count in
    let within : count < length classes = c.loop-count-test.true in
    let before : count - 1 < length classes = omega (arith, within) in
    let rises : precedes (class_at classes (count - 1)) (class_at classes count) ≡ true =
    ap₂ precedes (get_or_default classes (count - 1) _ _ before) (get_or_default classes count _ _ within) ∙ sym c.rise.ensures ∙ c.if-rise.true in
    (omega (arith), omega (arith, within), one_more classes count c.loop-count.invariant.0 c.loop-count.invariant.2 rises)
