use Rattle.std.proofs.Common.{◌∙◌, ap, subst, length}
use Rattle.std.proofs.lemmas.List.Elements.{All-weaker}
use Rattle.dmn_analysis.specs.Claims.{IsMaskedAmong}
use Rattle.dmn_analysis.specs.Telling.{IsMaskedOn}
use Rattle.dmn_analysis.specs.Whole.{AreWhole}
use Rattle.dmn_analysis.specs.declared.found.Mask.{Mask}
use Rattle.dmn_analysis.proofs.Answering.{masked}
use Rattle.dmn_analysis.proofs.single_answers.find_masked.Goals as goal

pub returns : goal.returns
returns c =
    let t = c.args.table.now in
    let asked = c.args.asked.now in
    let words = c.in_ok-words.words.items in
    let cells = c.in-Some.cells.items in
    let long = rw c.in-Some.is at c.in_ok-cells.ensures.long ∙ ap length c.inputs-count.ensures in
    let whole = subst (λ ws. AreWhole ws asked cells) c.deref.ensures.value (rw c.in-Some.is at c.in_ok-cells.ensures.all) in
    All-weaker (λ (k : Mask). IsMaskedOn t c.deref-3.result.now c.deref-4.result.now k.rule) (λ (k : Mask). IsMaskedAmong t asked k.rule) (λ k b.
    masked t words asked cells k.rule long whole
    (subst (λ ws. IsMaskedOn t ws cells k.rule) c.deref-3.ensures.value (subst (λ cs. IsMaskedOn t c.deref-3.result.now cs k.rule) c.deref-4.ensures.value b))) c.in_ok-found.found.items c.in_ok-found.ensures
