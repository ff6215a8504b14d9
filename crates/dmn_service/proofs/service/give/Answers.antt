use Rattle.std.proofs.Common.{◌∙◌}
use Rattle.dmn_service.specs.Run.{values_in, given_at}
use Rattle.dmn_service.proofs.Kept.{given_more}
use Rattle.dmn_service.proofs.service.give.Goals as goal

pub loop-i-preserved : goal.loop-i-preserved
loop-i-preserved c =
    let ps = c.args.parameters.now in
    let vs = c.args.values.now in record {
      given = given_more (given_at ps vs (values_in c.args.found.now.items)) ps vs (values_in c.loop-i.found.items) (values_in c.keep.new.found.items) c.loop-i.i c.index-values-i.result c.in_ok-value.value
          c.loop-i.invariant.given c.loop-i-test.true c.requires.values c.index-values-i.is c.in_ok-value.ensures c.keep.ensures.kept;
      count = c.keep.ensures.count ∙ c.loop-i.invariant.count;
    }
