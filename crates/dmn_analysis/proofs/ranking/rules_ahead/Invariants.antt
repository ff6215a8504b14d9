use Rattle.std.specs.List.{All}
use Rattle.dmn_analysis.specs.Claims.{IsAhead}
use Rattle.dmn_analysis.proofs.ranking.rules_ahead.Given as goal

abbrev pub invariant-loop-place : goal.invariant-loop-place
invariant-loop-place l = All (λ j. IsAhead l.table.outputs l.table.rules j l.rule) l.first.items
