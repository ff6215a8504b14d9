use Rattle.std.proofs.Common.{subst}
use Rattle.dmn_analysis.specs.Joining.{AreCovered}
use Rattle.dmn_analysis.specs.declared.gaps.Bare.{Bare}
use Rattle.dmn_analysis.proofs.Turning.{all_of, one_more}
use Rattle.dmn_analysis.proofs.within.are_covered.Goals as goal

pub loop-one-preserved : goal.loop-one-preserved
loop-one-preserved c =
    one_more (λ (b : Bare). AreCovered b.cells.items c.args.all.now) c.args.bare.now c.loop-one.one-index c.one-item.result c.loop-one-test.true c.one-item.is c.loop-one.invariant
    (subst (λ cs. AreCovered cs c.args.all.now) c.deref.ensures.value (c.is_covered.ensures c.if-not-is_covered.false))

pub returns : goal.returns
returns c = λ _. all_of (λ (b : Bare). AreCovered b.cells.items c.args.all.now) c.args.bare.now c.loop-one.one-index c.loop-one-test.false c.loop-one.invariant
