use Rattle.std.proofs.Common.{◌≡◌, false, take}
use Rattle.feel_value.specs.Distinct.{is_among}
use Rattle.desk_requests.specs.Register.{names_of}
use Rattle.desk_requests.proofs.register.Register.place_of.Given as goal

abbrev pub invariant-loop-place : goal.invariant-loop-place
invariant-loop-place l = is_among (take l.place (names_of l.self)) l.name ≡ false
