use Rattle.std.proofs.Common.{◌≡◌, ◌++◌, drop, map}
use Rattle.dmn_explain.specs.Numbered.{hit_view}
use Rattle.dmn_explain.proofs.asking.numbers_of.Given as goal

abbrev pub invariant-loop-hit : goal.invariant-loop-hit
invariant-loop-hit l = map (λ h. h.0) (map hit_view l.hits) ≡ l.numbers.items ++ map (λ h. h.0) (map hit_view (drop l.hit-index l.hits))
