use Rattle.std.specs.List.{All}
use Rattle.dmn_analysis.specs.Telling.{IsMaskedOn}
use Rattle.dmn_analysis.specs.declared.found.Mask.{Mask}
use Rattle.dmn_analysis.proofs.single_answers.masks.Given as goal

abbrev pub invariant-loop-rule : goal.invariant-loop-rule
invariant-loop-rule l = All (λ (k : Mask). IsMaskedOn l.table l.words l.cells k.rule) l.found.items
