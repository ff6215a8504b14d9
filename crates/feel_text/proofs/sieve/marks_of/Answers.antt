use Rattle.std.proofs.Common.{◌<◌, ◌*◌, ◌^◌, ◌%◌, ◌∙◌, ap, sym, subst, take, bit_or, arith}
use Rattle.std.specs.List.{All}
use Rattle.std.proofs.lemmas.List.{take_all}
use Rattle.std.proofs.lemmas.List.Elements.{All-more}
use Rattle.feel_value.specs.Datum.{text}
use Rattle.feel_value.specs.View.{datum_of}
use Rattle.feel_text.specs.Sieves.{IsMarked}
use Rattle.feel_text.proofs.Sieves.{marks_grow, text_marked}
use Rattle.feel_text.proofs.sieve.marks_of.Goals as goal

pub loop-value-preserved : goal.loop-value-preserved
loop-value-preserved c =
    let items = c.args.values.now in
    let i = c.loop-value.value-index in
    let k = c.from.result in
    let marks = bit_or c.loop-value.marks (1 * 2 ^ k % 2 ^ 64) in
    let d = c.value-item.result in
    let small : k < 64 = subst (λ n. n < 64) (sym c.from.ensures) c.mark.ensures.below in
    let shown = ap datum_of c.in-Text.is ∙ ap text (sym c.as_str.ensures.value) in
    All-more (IsMarked marks) items i d c.loop-value-test.true
    (marks_grow c.loop-value.marks k (take i items) small c.loop-value.invariant)
    (subst (IsMarked marks) c.value-item.is (text_marked c.loop-value.marks k c.as_str.result.now d (c.from.ensures ∙ c.mark.ensures.mark) small shown))

pub returns : goal.returns
returns c = subst (All (IsMarked c.loop-value.marks)) (take_all c.loop-value.value-index c.args.values.now (omega arith)) c.loop-value.invariant
