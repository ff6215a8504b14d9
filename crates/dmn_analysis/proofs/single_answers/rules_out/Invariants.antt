use Rattle.std.proofs.Common.{[], map}
use Rattle.std.specs.List.{All}
use Rattle.dmn_analysis.specs.Telling.{IsBehind}
use Rattle.dmn_analysis.proofs.single_answers.rules_out.Given as goal

abbrev pub invariant-loop-rule : goal.invariant-loop-rule
invariant-loop-rule l = All (λ i. IsBehind l.words l.rows l.cells i []) l.out.items
