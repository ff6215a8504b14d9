use Rattle.std.proofs.Common.{◌≡◌, drop}
use Rattle.serde_json.specs.Find.{get}
use Rattle.serde_json.specs.View.{view}
use Rattle.feel_value.specs.Found.{each}
use Rattle.dmn_table.proofs.Each.{after}
use Rattle.dmn_service.specs.Places.{name_at}
use Rattle.dmn_plan.specs.Request.{value_under}
use Rattle.dmn_plan.proofs.values.values_by_class.Given as goal

abbrev pub invariant-loop-place : goal.invariant-loop-place
invariant-loop-place l =
    each (λ q. value_under (get (name_at l.items q) (view l.inputs))) l.places
    ≡ after l.values.items (each (λ q. value_under (get (name_at l.items q) (view l.inputs))) (drop l.place-index l.places))
