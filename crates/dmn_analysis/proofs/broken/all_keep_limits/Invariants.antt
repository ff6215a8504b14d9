use Rattle.std.proofs.Common.{take}
use Rattle.std.specs.List.{All}
use Rattle.std.specs.Prelude.{◌≢◌}
use Rattle.feel_text.specs.Satisfied.{Broken, satisfied}
use Rattle.dmn_analysis.proofs.broken.all_keep_limits.Given as goal

abbrev pub invariant-loop-tests : goal.invariant-loop-tests
invariant-loop-tests l = All (λ ts. satisfied ts l.value l.env ≢ Broken) (take l.tests-index l.all)
