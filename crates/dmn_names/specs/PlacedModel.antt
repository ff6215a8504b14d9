-- The model whose names are placed, and the lists of a service by places.
use Rattle.std.specs.Prelude.{ℕ, List, map, Vec}
use Rattle.std.specs.declared.alloc.Global.{Global}
use Rattle.dmn_form.specs.Draft.{Draft}
use Rattle.dmn_form.specs.ModelView.{model_view}
use Rattle.dmn_names.specs.Places.{PlacedService}
use Rattle.dmn_names.specs.declared.places.Places as places
use Rattle.dmn_names.specs.declared.places.ServicePlaces as service

-- the model whose names are placed
abbrev pub placed_model : places.Places → Draft
placed_model p = model_view p.model.now

abbrev pub placed_service_view : service.ServicePlaces → PlacedService
placed_service_view s = record { outputs = s.outputs.items; encapsulated = s.encapsulated.items; input_decisions = s.input_decisions.items; input_data = s.input_data.items }

-- the places that each decision needs
abbrev pub needs_view : Vec (Vec ℕ Global) Global → List (List ℕ)
needs_view v = map (λ p. p.items) v.items
