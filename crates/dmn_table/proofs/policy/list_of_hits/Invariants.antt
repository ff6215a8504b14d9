use Rattle.std.proofs.Common.{◌≡◌, ◌++◌, map}
use Rattle.feel_value.specs.View.{datum_of}
use Rattle.dmn_table.specs.View.{hit_view}
use Rattle.dmn_table.proofs.policy.list_of_hits.Given as goal

abbrev pub invariant-loop-hit : goal.invariant-loop-hit
invariant-loop-hit l = map (λ h. h.output) (map hit_view l.fn.hits.items) ≡ map datum_of l.items.items ++ map (λ h. h.output) (map hit_view l.hit-iterator.rest.items)
