use Rattle.std.proofs.Common.{◌≡◌, ◌∙◌, ◌-◌, sym, ap, length, true, arith}
use Rattle.std.specs.Arc.{arc_str_bytes}
use Rattle.dmn_analysis.specs.Cells.{is_less}
use Rattle.dmn_analysis.proofs.Places.{at_place}
use Rattle.dmn_analysis.proofs.OnTexts.{past_last}
use Rattle.dmn_analysis.proofs.class.is_past_all.Goals as goal

pub returns : goal.returns
returns c = λ told s h.
    let texts = c.args.texts.now in
    let t = c.args.text.now in
    let one = c.index-texts-count.result in
    let there = at_place texts (length texts - 1) one (omega arith) c.index-texts-count.is in
    let less : is_less (arc_str_bytes one) t ≡ true = ap (λ u. is_less u t) (sym c.as_str.ensures.value) ∙ sym c.is_less.ensures ∙ told in
    past_last texts t s one h there less
