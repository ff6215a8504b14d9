-- Internal: what waits in a lane.
use Rattle.std.specs.Prelude.{Bool, true, false, List, [], ◌∷◌, ◌||◌}
use Rattle.std.specs.Arc.{arc_value}
use Rattle.desk_wire.specs.declared.report.Told.{Told}
use Rattle.desk_wire.specs.declared.report.Told.TheVariants as told
use Rattle.desk_serving.specs.Owed.{Queue, closed_by, with_put, with_told}
use Rattle.desk_serving.specs.declared.client_lane.Waiting.{Waiting}
use Rattle.desk_serving.specs.declared.client_lane.Waiting.TheVariants as waiting

module _ {C : Type 0} where
  -- the lane with this behind it
  abbrev pub with_wait : Queue → Waiting C → Queue
  with_wait lane (waiting.Request work bytes) = with_put lane (arc_value work)
  with_wait lane (waiting.Told line what bytes) = with_told line what lane

  abbrev pub with_waits : Queue → List (Waiting C) → Queue
  with_waits lane [] = lane
  with_waits lane (wait ∷ waits) = with_waits (with_wait lane wait) waits

  -- whether the client is closed by it
  abbrev pub closes : Waiting C → Bool
  closes (waiting.Request work bytes) = false
  closes (waiting.Told line what bytes) = closed_by what false

  abbrev pub some_closes : List (Waiting C) → Bool
  some_closes [] = false
  some_closes (wait ∷ waits) = closes wait || some_closes waits
