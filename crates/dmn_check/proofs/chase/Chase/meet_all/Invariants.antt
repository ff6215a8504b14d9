use Rattle.std.proofs.Common.{take}
use Rattle.dmn_check.specs.Chase.{HasMet}
use Rattle.dmn_check.proofs.chase.Chase.meet_all.Given as goal

abbrev pub invariant-loop-place : goal.invariant-loop-place
invariant-loop-place l = HasMet l.initial.self (take l.place-index l.places) l.self
