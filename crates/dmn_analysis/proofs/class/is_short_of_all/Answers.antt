use Rattle.std.proofs.Common.{◌≡◌, ◌∙◌, sym, ap, true, arith}
use Rattle.std.specs.Arc.{arc_str_bytes}
use Rattle.dmn_analysis.specs.Cells.{is_less}
use Rattle.dmn_analysis.proofs.Places.{at_place}
use Rattle.dmn_analysis.proofs.OnTexts.{short_of_first}
use Rattle.dmn_analysis.proofs.class.is_short_of_all.Goals as goal

pub returns : goal.returns
returns c = λ told s h.
    let texts = c.args.texts.now in
    let t = c.args.text.now in
    let one = c.index-texts-0.result in
    let there = at_place texts (0) one (omega arith) c.index-texts-0.is in
    let less : is_less t (arc_str_bytes one) ≡ true = ap (is_less t) (sym c.as_str.ensures.value) ∙ sym c.is_less.ensures ∙ told in
    short_of_first texts t s one h there less
