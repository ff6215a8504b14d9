use Rattle.std.proofs.Common.{◌∙◌, sym, ap, get_or, List, Option}
use Rattle.std.proofs.lemmas.List.{drop_all}
use denote.Ref.{Bor}
use Rattle.dmn_ranges.specs.Names.{members_if}
use Rattle.dmn_ranges.specs.Services.{given_known, views}
use Rattle.dmn_ranges.specs.declared.range.ParameterRange.{ParameterRange}
use Rattle.dmn_ranges.proofs.SoundServices.{know_turn, views_set}
use Rattle.dmn_ranges.proofs.service.give_members.Goals as goal

pub loop-i-preserved : goal.loop-i-preserved
loop-i-preserved c =
    let qs = c.args.parameters.now in
    let known = c.loop-i.known.items in
    let kept = ap (λ (ks : List (Option (Bor ParameterRange))). views ks) c.know.ensures.known ∙ views_set known (get_or qs c.loop-i.i 0) c.parameter_given.result in
    record {
      given = know_turn c.args.domains.now (given_known c.args.domains.now 0 qs (views c.args.known.now.items)) (views known) (views c.know.new.known.items) qs c.loop-i.i (members_if c.parameter_given.result)
          c.loop-i.invariant.given c.loop-i-test.true c.parameter_given.ensures kept;
      count = c.know.ensures.count ∙ c.loop-i.invariant.count;
    }

pub returns-clause-given : goal.returns-clause-given
returns-clause-given c = sym (c.loop-i.invariant.given ∙ ap (λ qs. given_known c.args.domains.now c.loop-i.i qs (views c.loop-i.known.items)) (drop_all c.loop-i.i c.args.parameters.now c.loop-i-test.false))
