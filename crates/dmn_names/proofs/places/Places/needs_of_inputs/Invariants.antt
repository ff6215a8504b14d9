use Rattle.std.proofs.Common.{◌≡◌, ◌++◌, [], map, drop, string_bytes}
use Rattle.dmn_names.specs.PlacedModel.{placed_model, needs_view}
use Rattle.dmn_names.proofs.places.Places.needs_of_inputs.Given as goal

abbrev pub invariant-loop-input : goal.invariant-loop-input
invariant-loop-input l = map (λ n. []) (placed_model l.self).inputs ≡ needs_view l.needs ++ map (λ n. []) (map string_bytes (drop l._input-index l._input-items))
