use Rattle.std.proofs.Common.{◌≡◌, map, sym, ap, ◌∙◌, subst, IfOk}
use Rattle.feel_value.specs.Found.{each, outcome_from}
use Rattle.dmn_table.specs.Hits.{hit_of}
use Rattle.dmn_table.specs.Parts.{column_view}
use Rattle.dmn_table.specs.Result.{policy_result}
use Rattle.dmn_table.specs.RuleOutputs.{rules_view}
use Rattle.dmn_table.proofs.ByOutputs.{by_count}
use Rattle.dmn_table.proofs.policy.result_of.Goals as goal

pub returns-in-Count : goal.returns-in-Count
returns-in-Count c =
    let cs = map column_view c.args.outputs.now in
    let rs = rules_view c.args.rules.now in
    subst (λ d. IfOk c.count.result (λ o. o ≡ d)) (by_count cs c.args.env.now rs ∙ ap (λ p. outcome_from (policy_result p) (each (hit_of cs c.args.env.now) rs)) (sym c.in-Count.is)) c.count.ensures
