use Rattle.std.proofs.Common.{◌≡◌, ◌∙◌, sym, ap, false, arith}
use Rattle.std.specs.Arc.{arc_str_bytes}
use Rattle.std.proofs.lemmas.Bool.{not-true}
use Rattle.dmn_analysis.specs.Cells.{is_less}
use Rattle.dmn_analysis.proofs.Places.{at_place}
use Rattle.dmn_analysis.proofs.OnTexts.{upto_first}
use Rattle.dmn_analysis.proofs.class.is_upto_all.Goals as goal

pub returns : goal.returns
returns c = λ told s h.
    let texts = c.args.texts.now in
    let t = c.args.text.now in
    let one = c.index-texts-0.result in
    let there = at_place texts (0) one (omega arith) c.index-texts-0.is in
    let less : is_less (arc_str_bytes one) t ≡ false = ap (λ u. is_less u t) (sym c.as_str.ensures.value) ∙ sym c.is_less.ensures ∙ not-true c.is_less.result told in
    upto_first texts t s one h there less
