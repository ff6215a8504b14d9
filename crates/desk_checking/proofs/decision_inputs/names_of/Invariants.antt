use Rattle.std.proofs.Common.{◌≡◌, ◌++◌, drop, map}
use Rattle.desk_ranges.specs.Gives.{written_name}
use Rattle.desk_checking.proofs.decision_inputs.names_of.Given as goal

abbrev pub invariant-loop-service : goal.invariant-loop-service
invariant-loop-service l = map written_name l.services ≡ map (λ n. n.now) l.names.items ++ map written_name (drop l.service-index l.services)
