-- Internal, cited by no public contract: the fault of a service by places.
use Rattle.std.specs.Prelude.{ℕ, List, Option, None, Some, not, if◌then◌else◌}
use Rattle.dmn_graph.specs.Within.{reaches_only}
use Rattle.dmn_names.specs.Places.{PlacedService}
use Rattle.dmn_plan.specs.ServicesByPlace.{inner_places, parameter_places, do_share}
use Rattle.dmn_check.specs.declared.finding.ServiceFault.{ServiceFault}
use Rattle.dmn_check.specs.declared.finding.ServiceFault.TheVariants.{Shared, Unlisted}

abbrev pub fault_by_place : ℕ → List (List ℕ) → PlacedService → Option ServiceFault
fault_by_place steps needs p =
    if do_share p.input_decisions (inner_places p) then Some Shared
    else (if not (reaches_only steps (inner_places p) (parameter_places p) needs p.outputs) then Some Unlisted else None)
