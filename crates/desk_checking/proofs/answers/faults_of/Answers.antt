use Rattle.std.proofs.Common.{map, subst, sym}
use Rattle.dmn_table.specs.Parts.{rule_view}
use Rattle.desk_checking.specs.Answering.{AreAgainst, AreFaults}
use Rattle.desk_checking.proofs.answers.faults_of.Goals as goal

pub returns : goal.returns
returns c =
    let found = c.deref.result.now in
    let faults = c.in_ok-faults.faults in
    let t = c.args.table.now in
    subst (λ o. AreFaults t o faults) (sym c.in-Some.is)
    (subst (λ os. AreAgainst t.policy t.rules os faults) c.deref.ensures.value
    (subst (λ rs. AreAgainst t.policy rs found faults) c.rules.ensures.rules (subst (λ p. AreAgainst p (map rule_view c.rules.result.now) found faults) c.policy.ensures c.in_ok-faults.ensures)))
