use Rattle.std.proofs.Common.{◌∙◌, sym, ap}
use Rattle.std.proofs.lemmas.List.{drop_all}
use Rattle.dmn_ranges.specs.Services.{given_told}
use Rattle.dmn_ranges.proofs.SoundServices.{give_turn}
use Rattle.dmn_ranges.proofs.service.give.Goals as goal

pub loop-i-preserved : goal.loop-i-preserved
loop-i-preserved c =
    let qs = c.args.parameters.now in record {
      given = give_turn c.args.domains.now (given_told c.args.domains.now 0 qs c.args.told.now.items) c.loop-i.told.items c.keep.new.told.items qs c.loop-i.i c.domain_at.result
          c.loop-i.invariant.given c.loop-i-test.true c.domain_at.ensures c.keep.ensures.kept;
      count = c.keep.ensures.count ∙ c.loop-i.invariant.count;
    }

pub returns-clause-given : goal.returns-clause-given
returns-clause-given c = sym (c.loop-i.invariant.given ∙ ap (λ qs. given_told c.args.domains.now c.loop-i.i qs c.loop-i.told.items) (drop_all c.loop-i.i c.args.parameters.now c.loop-i-test.false))
