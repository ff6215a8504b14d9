use Rattle.std.proofs.Common.{◌≡◌, ◌++◌, drop}
use Rattle.dmn_form.specs.ModelView.{model_view}
use Rattle.dmn_plan.specs.Plans.{place_name}
use Rattle.dmn_service.specs.Places.{named_places}
use Rattle.dmn_plan.proofs.items.named_needs.Given as goal

abbrev pub invariant-loop-place : goal.invariant-loop-place
invariant-loop-place l = named_places (place_name (model_view l.model)) l.places ≡ l.needs ++ named_places (place_name (model_view l.model)) (drop l.place-index l.places)
