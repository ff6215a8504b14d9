use Rattle.std.proofs.Common.{◌≡◌, ◌∙◌, ◌-◌, sym, ap, true, arith}
use Rattle.std.specs.Arc.{arc_str_bytes}
use Rattle.dmn_analysis.specs.Cells.{is_less}
use Rattle.dmn_analysis.proofs.Places.{at_place}
use Rattle.dmn_analysis.proofs.TextOrder.{greater_before}
use Rattle.dmn_analysis.proofs.listing.texts_are_less_before.Goals as goal

pub returns : goal.returns
returns c = λ told k t before here.
    let ts = c.args.texts.now in
    let place = c.args.place in
    let one = c.index-texts-place.result in
    let less : is_less (arc_str_bytes one) c.args.low.now ≡ true = ap (λ u. is_less u c.args.low.now) (sym c.as_str.ensures.value) ∙ sym c.is_less.ensures ∙ told in
    greater_before ts c.requires (place - 1) one c.args.low.now (at_place ts (place - 1) one (omega arith) c.index-texts-place.is) less k t (omega (arith, before)) here
