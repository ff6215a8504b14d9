use Rattle.std.proofs.Common.{◌≡◌, [], take, Some, false}
use Rattle.std.specs.List.{All}
use Rattle.dmn_table.specs.Hits.{does_hit}
use Rattle.dmn_table.specs.Parts.{rule_view}
use Rattle.dmn_analysis.proofs.asking.all_miss.Given as goal

abbrev pub invariant-loop-rule : goal.invariant-loop-rule
invariant-loop-rule l = All (λ r. does_hit [] l.values (rule_view r) ≡ Some false) (take l.rule-index l.rules)
