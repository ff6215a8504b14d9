use Rattle.std.proofs.Common.{◌≡◌, ◌++◌, drop, get_or, false}
use Rattle.std.specs.List.{filter}
use Rattle.dmn_explain.proofs.needed.marked.Given as goal

abbrev pub invariant-loop-place : goal.invariant-loop-place
invariant-loop-place l = filter (λ q. get_or l.marks q false) l.places ≡ l.found.items ++ filter (λ q. get_or l.marks q false) (drop l.place-index l.places)
