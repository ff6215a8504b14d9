use Rattle.std.proofs.Common.{◌≡◌, ◌<◌, ◌++◌, drop, length, map}
use Rattle.std.specs.List.{All}
use Rattle.dmn_service.specs.Places.{name_at}
use Rattle.desk_checking.specs.ComesView.{decision_names}
use Rattle.desk_checking.proofs.decision_inputs.decision_places.Given as goal

abbrev pub invariant-loop-place : goal.invariant-loop-place
invariant-loop-place l = record {
  within : All (λ q. q < length l.items) l.places.items;
  named : map (name_at l.items) l.places.items ++ decision_names l.items (drop l.place l.items) ≡ decision_names l.items l.items;
}
