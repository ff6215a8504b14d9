use Rattle.std.proofs.Common.{◌≡◌, ◌∙◌, sym, ap, ◌+◌, ◌-◌, ◌<◌, ◌/◌, arith, length, true, to_z, of_z, w64}
use Rattle.std.proofs.lemmas.List.{get_or_default}
use Rattle.table_classes.specs.Spans.{is_below, class_at}
use Rattle.table_classes.proofs.Rising.{all_below}
use Rattle.table_classes.proofs.spans.start_of.Goals as goal

pub loop-from-preserved-then-ends_below : goal.loop-from-preserved-then-ends_below
loop-from-preserved-then-ends_below c =
    let l = c.loop-from in
    let classes = c.args.classes.now in
    let middle = l.from + (l.to - l.from) / 2 in
    let test = c.loop-from-test.true in
    let inside : middle < l.to = omega (arith, test) in
    let within : middle < length classes = omega (arith, inside, l.invariant.2) in
    let low = to_z w64 (of_z w64 c.args.low) in
    let met : is_below low (class_at classes middle) ≡ true = ap (is_below low) (get_or_default classes middle _ _ within) ∙ sym c.ends_below.ensures ∙ c.if-ends_below.true in
    (omega (arith, inside), l.invariant.1, l.invariant.2, all_below classes c.args.count middle low c.requires (omega (arith, inside, l.invariant.1)) met)
