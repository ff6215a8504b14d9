use Rattle.std.proofs.Common.{◌≡◌, map, drop}
use Rattle.dmn_form.proofs.Readings.{read_after}
use Rattle.dmn_form.specs.ModelView.{decision_view}
use Rattle.dmn_names.specs.Places.{value_place, needs_by_place}
use Rattle.feel_value.specs.Found.{each}
use Rattle.dmn_names.specs.PlacedModel.{placed_model, needs_view}
use Rattle.dmn_names.proofs.places.Places.needs_of_all.Given as goal

abbrev pub invariant-loop-decision : goal.invariant-loop-decision
invariant-loop-decision l =
    needs_by_place (placed_model l.self)
    ≡ read_after (needs_view l.needs) (each (λ d. each (value_place (placed_model l.self)) d.needs) (map decision_view (drop l.decision-index l.decision-items)))
