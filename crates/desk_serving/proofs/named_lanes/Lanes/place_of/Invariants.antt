use Rattle.std.proofs.Common.{◌≡◌, false, take}
use Rattle.desk_serving.specs.LanesView.{names_in}
use Rattle.feel_value.specs.Distinct.{is_among}
use Rattle.desk_serving.proofs.named_lanes.Lanes.place_of.Given as goal

abbrev pub invariant-loop-place : goal.invariant-loop-place
invariant-loop-place g l = is_among (take l.place (names_in l.self)) l.name ≡ false
