use Rattle.std.proofs.Common.{◌≡◌, ℕ, List}
use Rattle.std.specs.BTreeMap.{get_by_text}
use Rattle.dmn_plan.specs.Indexed.{first_of, plan_named}
use Rattle.dmn_plan.proofs.index.plans_by_name.Given as goal

abbrev pub invariant-loop-plan : goal.invariant-loop-plan
invariant-loop-plan l = (n : List ℕ) → plan_named l.fn.plans.items n ≡ first_of (get_by_text l.found n) (plan_named l.plan-iterator.rest.items n)
