use Rattle.std.proofs.Common.{sym}
use Rattle.std.specs.BTreeMap.{get_by_text}
use Rattle.dmn_plan.proofs.Named.{mapped_more, one_found, one_lacks}
use Rattle.dmn_plan.proofs.index.plans_among.Goals as goal

pub returns-in_default : goal.returns-in_default
returns-in_default c =
    one_lacks (λ n. get_by_text c.args.plans.now n.now) _ c.args.names.now _ c.loop-name.name-index _ c.loop-name.invariant c.loop-name-test.true c.in_default.ensures.value

pub loop-name-preserved : goal.loop-name-preserved
loop-name-preserved c =
    one_found (λ n. get_by_text c.args.plans.now n.now) _ c.args.names.now _ _ c.loop-name.name-index _ c.in-Some.plan.now c.loop-name.invariant c.loop-name-test.true c.in-Some.ensures.value
    (mapped_more (λ p. p.now) c.loop-name.found.items c.push.new.self.items c.in-Some.plan c.in_ok-push.ensures.items)
