use Rattle.std.proofs.Common.{◌≡◌, ◌∙◌, sym, ap, true, arith}
use Rattle.std.specs.Arc.{arc_str_bytes}
use Rattle.dmn_analysis.specs.Cells.{is_less}
use Rattle.dmn_analysis.proofs.Places.{at_place}
use Rattle.dmn_analysis.proofs.TextOrder.{less_from}
use Rattle.dmn_analysis.proofs.listing.texts_are_greater_from.Goals as goal

pub returns : goal.returns
returns c = λ told.
    let ts = c.args.texts.now in
    let one = c.index-texts-place.result in
    let less : is_less c.args.high.now (arc_str_bytes one) ≡ true = ap (is_less c.args.high.now) (sym c.as_str.ensures.value) ∙ sym c.is_less.ensures ∙ told in
    less_from ts c.requires c.args.place one c.args.high.now (at_place ts c.args.place one (omega arith) c.index-texts-place.is) less
