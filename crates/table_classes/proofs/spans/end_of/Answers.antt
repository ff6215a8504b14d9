use Rattle.std.proofs.Common.{◌≡◌, ◌∙◌, sym, ap, ◌+◌, ◌-◌, ◌<◌, ◌/◌, arith, length, true, to_z, of_z, w64}
use Rattle.std.proofs.lemmas.List.{get_or_default}
use Rattle.table_classes.specs.Spans.{is_above, class_at}
use Rattle.table_classes.proofs.Rising.{all_above}
use Rattle.table_classes.proofs.spans.end_of.Goals as goal

pub loop-from-preserved-then-begins_above : goal.loop-from-preserved-then-begins_above
loop-from-preserved-then-begins_above c =
    let l = c.loop-from in
    let classes = c.args.classes.now in
    let middle = l.from + (l.to - l.from) / 2 in
    let test = c.loop-from-test.true in
    let inside : middle < l.to = omega (arith, test) in
    let within : middle < length classes = omega (arith, inside, l.invariant.2) in
    let high = to_z w64 (of_z w64 c.args.high) in
    let met : is_above high (class_at classes middle) ≡ true = ap (is_above high) (get_or_default classes middle _ _ within) ∙ sym c.begins_above.ensures ∙ c.if-begins_above.true in
    (omega (arith), omega (arith, inside, l.invariant.1), omega (arith, inside, l.invariant.2), all_above classes c.args.count middle high c.requires (omega (arith, inside, l.invariant.1)) met)
