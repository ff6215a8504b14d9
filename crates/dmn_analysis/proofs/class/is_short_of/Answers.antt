use Rattle.std.proofs.Common.{◌≡◌, ◌∙◌, ◌-◌, sym, ap, false, arith}
use Rattle.std.specs.Arc.{arc_str_bytes}
use Rattle.std.proofs.lemmas.Bool.{not-true}
use Rattle.dmn_analysis.specs.Cells.{is_less}
use Rattle.dmn_analysis.proofs.Places.{at_place}
use Rattle.dmn_analysis.proofs.TextOrder.{less_past}
use Rattle.dmn_analysis.proofs.class.is_short_of.Goals as goal

pub returns : goal.returns
returns c = λ told s smaller.
    let texts = c.args.texts.now in
    let place = c.args.place in
    let one = c.index-texts-place.result in
    let there = at_place texts (place - 1) one (omega arith) c.index-texts-place.is in
    let not_less : is_less (arc_str_bytes one) c.args.text.now ≡ false = ap (λ u. is_less u c.args.text.now) (sym c.as_str.ensures.value) ∙ sym c.is_less.ensures ∙ not-true c.is_less.result told in
    less_past (arc_str_bytes one) s c.args.text.now not_less (smaller (place - 1) one (omega arith) there)
