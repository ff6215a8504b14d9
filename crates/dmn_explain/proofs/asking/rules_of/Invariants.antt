use Rattle.std.proofs.Common.{◌≡◌, ◌++◌, drop, map}
use Rattle.dmn_table.specs.Parts.{rules_view}
use Rattle.dmn_explain.specs.Numbered.{hit_view}
use Rattle.dmn_explain.proofs.asking.rules_of.Given as goal

abbrev pub invariant-loop-hit : goal.invariant-loop-hit
invariant-loop-hit l = map (λ h. h.1) (map hit_view l.hits) ≡ rules_view l.rules.items ++ map (λ h. h.1) (map hit_view (drop l.hit-index l.hits))
