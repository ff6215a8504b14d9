use Rattle.std.proofs.Common.{arith, subst}
use Rattle.dmn_table.specs.Parts.{rule_view}
use Rattle.dmn_table.specs.Table.{Rule}
use Rattle.desk_checking.specs.Outputs.{TellsEntries}
use Rattle.desk_checking.proofs.SameValues.{rule_at}
use Rattle.desk_checking.proofs.same_outputs.outputs_differ.Goals as goal

pub returns : goal.returns
returns c = λ r s here there.
    let rules = c.args.rules.now in
    let one = c.index-rules-first.result in
    let other = c.index-rules-second.result in
    subst (λ (q : Rule). TellsEntries q.gives s.gives c.rules_differ.result)
    (rule_at rules c.args.first one r (omega arith) c.index-rules-first.is here)
    (subst (λ (q : Rule). TellsEntries (rule_view one).gives q.gives c.rules_differ.result) (rule_at rules c.args.second other s (omega arith) c.index-rules-second.is there) c.rules_differ.ensures)
