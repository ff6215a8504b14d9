use Rattle.dmn_told.specs.Covered.{IsCovered}
use Rattle.dmn_told.proofs.domains.domain_of.Given as goal

abbrev pub invariant-loop-place : goal.invariant-loop-place
invariant-loop-place l = IsCovered l.domains l.name l.parameter
