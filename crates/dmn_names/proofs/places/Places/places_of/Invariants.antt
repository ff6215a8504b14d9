use Rattle.std.proofs.Common.{◌≡◌, map, drop, string_bytes}
use Rattle.dmn_form.proofs.Readings.{read_after}
use Rattle.feel_value.specs.Found.{each}
use Rattle.dmn_names.specs.PlacedModel.{placed_model}
use Rattle.dmn_names.specs.Kinds.{place_as}
use Rattle.dmn_names.proofs.places.Places.places_of.Given as goal

abbrev pub invariant-loop-name : goal.invariant-loop-name
invariant-loop-name l =
    each (place_as l.kind (placed_model l.self)) (map string_bytes l.names)
    ≡ read_after l.places.items (each (place_as l.kind (placed_model l.self)) (map string_bytes (drop l.name-index l.names)))
