use Rattle.std.proofs.Common.{◌≡◌, drop, map}
use Rattle.feel_value.specs.Distinct.{are_distinct}
use Rattle.dmn_explain.proofs.columns.are_distinct.Given as goal

abbrev pub invariant-loop-i : goal.invariant-loop-i
invariant-loop-i l = are_distinct (map (λ n. n.now) l.names) ≡ are_distinct (map (λ n. n.now) (drop l.i l.names))
