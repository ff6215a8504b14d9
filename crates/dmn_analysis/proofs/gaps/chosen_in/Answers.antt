use Rattle.dmn_analysis.proofs.Places.{at_place}
use Rattle.dmn_analysis.proofs.gaps.chosen_in.Goals as goal

pub returns-then-cannot_hit : goal.returns-then-cannot_hit
returns-then-cannot_hit c =
    let rules = c.args.rows.now in
    let one = c.index-rows-chosen.result in
    record {
      rule = one;
      there = at_place rules c.args.chosen one c.if-chosen-rows.false c.index-rows-chosen.is;
      cannot = c.cannot_hit.ensures c.if-cannot_hit.true;
    }

pub halves-requires : goal.halves-requires
halves-requires c =
    let rules = c.args.rows.now in
    let one = c.index-rows-chosen-2.result in
    record {
      rule = one;
      there = at_place rules c.args.chosen one c.if-chosen-rows.false c.index-rows-chosen-2.is;
      entry = c.in-Some.ensures.entry;
      cell = c.in-Some.ensures.cell;
    }
