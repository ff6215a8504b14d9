use Rattle.std.proofs.Common.{◌≡◌, drop}
use Rattle.feel_value.specs.Found.{each}
use Rattle.dmn_table.proofs.Each.{after}
use Rattle.dmn_service.specs.Run.{values_in}
use Rattle.dmn_service.proofs.outputs.values.Given as goal

abbrev pub invariant-loop-place : goal.invariant-loop-place
invariant-loop-place l = each (values_in l.found) l.places ≡ after l.values.items (each (values_in l.found) (drop l.place-index l.places))
