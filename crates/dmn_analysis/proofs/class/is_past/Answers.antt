use Rattle.std.proofs.Common.{◌≡◌, ◌∙◌, sym, ap, false, arith}
use Rattle.std.specs.Arc.{arc_str_bytes}
use Rattle.std.proofs.lemmas.Bool.{not-true}
use Rattle.dmn_analysis.specs.Cells.{is_less}
use Rattle.dmn_analysis.proofs.Places.{at_place}
use Rattle.dmn_analysis.proofs.TextOrder.{less_upto}
use Rattle.dmn_analysis.proofs.class.is_past.Goals as goal

pub returns : goal.returns
returns c = λ told s greater.
    let texts = c.args.texts.now in
    let place = c.args.place in
    let one = c.index-texts-place.result in
    let there = at_place texts place one c.if-place-texts.false c.index-texts-place.is in
    let not_less : is_less c.args.text.now (arc_str_bytes one) ≡ false = ap (is_less c.args.text.now) (sym c.as_str.ensures.value) ∙ sym c.is_less.ensures ∙ not-true c.is_less.result told in
    less_upto s (arc_str_bytes one) c.args.text.now (greater place one (omega arith) there) not_less
