use Rattle.std.proofs.Common.{◌≡◌, ◌∙◌, ◌-◌, sym, ap, length, false, arith}
use Rattle.std.specs.Arc.{arc_str_bytes}
use Rattle.std.proofs.lemmas.Bool.{not-true}
use Rattle.dmn_analysis.specs.Cells.{is_less}
use Rattle.dmn_analysis.proofs.Places.{at_place}
use Rattle.dmn_analysis.proofs.OnTexts.{from_last}
use Rattle.dmn_analysis.proofs.class.is_from_all.Goals as goal

pub returns : goal.returns
returns c = λ told s h.
    let texts = c.args.texts.now in
    let t = c.args.text.now in
    let one = c.index-texts-count.result in
    let there = at_place texts (length texts - 1) one (omega arith) c.index-texts-count.is in
    let less : is_less t (arc_str_bytes one) ≡ false = ap (is_less t) (sym c.as_str.ensures.value) ∙ sym c.is_less.ensures ∙ not-true c.is_less.result told in
    from_last texts t s one h there less
