use Rattle.std.proofs.Common.{◌≡◌, ◌++◌, drop, map}
use Rattle.dmn_service.specs.Places.{name_at}
use Rattle.dmn_plan.proofs.values.names_at.Given as goal

abbrev pub invariant-loop-place : goal.invariant-loop-place
invariant-loop-place l = map (name_at l.items) l.places ≡ map (λ n. n.now) l.names.items ++ map (name_at l.items) (drop l.place-index l.places)
