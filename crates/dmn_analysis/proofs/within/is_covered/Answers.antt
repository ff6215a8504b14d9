use Rattle.std.proofs.Common.{subst}
use Rattle.dmn_analysis.specs.Cells.{AreIn}
use Rattle.dmn_analysis.specs.declared.gaps.Bare.{Bare}
use Rattle.dmn_analysis.proofs.Places.{at_place, map_at}
use Rattle.dmn_analysis.proofs.within.is_covered.Goals as goal

pub returns-then-cells_within : goal.returns-then-cells_within
returns-then-cells_within c = λ _ words values inside.
    let all = c.args.all.now in
    let one = c.one-item.result in
    record {
      place = c.loop-one.one-index;
      cells = one.cells.items;
      there = map_at (λ (b : Bare). b.cells.items) all c.loop-one.one-index one (at_place all c.loop-one.one-index one c.loop-one-test.true c.one-item.is);
      inside = subst (λ cs. AreIn words cs values) c.deref.ensures.value (c.cells_within.ensures c.if-cells_within.true words values inside);
    }
