use Rattle.std.proofs.Common.{◌≡◌, drop, map}
use Rattle.std.specs.BTreeMap.{get_by_text}
use Rattle.feel_value.specs.Found.{each}
use Rattle.dmn_table.proofs.Each.{after}
use Rattle.dmn_plan.proofs.index.plans_among.Given as goal

abbrev pub invariant-loop-name : goal.invariant-loop-name
invariant-loop-name l =
    each (λ n. get_by_text l.plans n.now) l.names ≡ after (map (λ p. p.now) l.found.items) (each (λ n. get_by_text l.plans n.now) (drop l.name-index l.names))
