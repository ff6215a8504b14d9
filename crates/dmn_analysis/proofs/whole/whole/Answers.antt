use Rattle.std.proofs.Common.{◌∙◌, sym, ap, subst, arith, length, [], ◌∷◌}
use Rattle.std.specs.List.{slice_get}
use Rattle.std.proofs.lemmas.List.{length-append}
use Rattle.dmn_analysis.specs.Whole.{AreWhole}
use Rattle.dmn_analysis.proofs.Places.{at_place}
use Rattle.dmn_analysis.proofs.Wholes.{whole_more}
use Rattle.dmn_analysis.proofs.whole.whole.Goals as goal

pub loop-place-preserved : goal.loop-place-preserved
loop-place-preserved c =
    let words = c.args.words.now in
    let asked = c.args.asked.now in
    let cells = c.loop-place.cells.items in
    let place = c.loop-place.place in
    let long = c.loop-place.invariant.0 in
    let of = ap (slice_get words) long ∙ at_place words place c.index-words-place.result c.if-place-words.false c.index-words-place.is in
    let is = ap (slice_get asked) long ∙ at_place asked place c.index-asked-place.result c.if-place-asked.false c.index-asked-place.is in (
      ap length c.in_ok-push.ensures.items ∙ omega (arith, long, length-append cells (c.whole_cell.result ∷ [])),
      subst (AreWhole words asked) (sym c.in_ok-push.ensures.items)
          (whole_more words asked cells c.index-words-place.result c.index-asked-place.result c.whole_cell.result c.loop-place.invariant.1 of is c.whole_cell.ensures),
    )

pub returns-clause-long : goal.returns-clause-long
returns-clause-long c = c.loop-place.invariant.0 ∙ omega (arith, c.loop-place-test.false, c.loop-place.auto.place-end)

pub returns-clause-all : goal.returns-clause-all
returns-clause-all c = c.loop-place.invariant.1
