use Rattle.std.proofs.Common.{◌∙◌, sym, ap, pos, false, get_or}
use Rattle.std.specs.List.{slice_get}
use Rattle.std.proofs.lemmas.Option.{IfSome_then, slice_get-get_or}
use Rattle.dmn_table.specs.Table.{Rule}
use Rattle.dmn_analysis.specs.declared.cell.Cell.{Cell}
use Rattle.dmn_analysis.specs.declared.cell.Others.TheVariants as others
use Rattle.dmn_analysis.proofs.Places.{at_place}
use Rattle.dmn_analysis.proofs.RulesOn.{cannot}
use Rattle.dmn_analysis.proofs.rule_on.cannot_hit.Goals as goal

pub returns-then-asked : goal.returns-then-asked
returns-then-asked c = λ _.
    let words = c.args.words.now in
    let cells = c.args.cells.now in
    let tests = c.deref-tests-items.result.now in
    let place = c.loop-place.place in
    let none : Cell = record { null = false; yes = false; no = false; low = pos 0; high = pos 0; from = 0; to = 0; others = others.None; parted = false } in
    let there = ap (λ (r : Rule). slice_get r.tests place) (sym c.rule.ensures) ∙ ap (λ ts. slice_get ts place) (sym c.deref-tests-items.ensures.value) ∙ at_place tests place c.tests-item.result c.loop-place-test.true c.tests-item.is in
    cannot words cells c.args.row.now place c.tests-item.result there (record {
      ws = c.index-words-place.result;
      cell = get_or cells place none;
      words_there = at_place words place c.index-words-place.result c.if-place-words.false c.index-words-place.is;
      cell_there = slice_get-get_or cells place none c.if-place-cells.false;
      settles = c.asked.ensures c.if-asked.true;
    })

pub asked-requires : goal.asked-requires
asked-requires c =
    let tests = c.deref-tests-items.result.now in
    let place = c.loop-place.place in
    let there = ap (λ (r : Rule). slice_get r.tests place) (sym c.rule.ensures) ∙ ap (λ ts. slice_get ts place) (sym c.deref-tests-items.ensures.value) ∙ at_place tests place c.tests-item.result c.loop-place-test.true c.tests-item.is in
    IfSome_then c.listing-listing.result c.listing-listing.ensures (λ l lists. lists c.tests-item.result there)
