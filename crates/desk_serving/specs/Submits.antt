-- Internal, cited by no public contract: what putting a request makes of a lane.
use Rattle.std.specs.Prelude.{◌≡◌}
use Rattle.std.specs.Arc.{arc_value}
use Rattle.dmn_plan.specs.Request.{Request}
use Rattle.desk_serving.specs.Owed.{Queue, with_put}
use Rattle.desk_serving.specs.declared.client_lane.Submitted.{Submitted}
use Rattle.desk_serving.specs.declared.client_lane.Submitted.TheVariants.{Accepted, Full}

abbrev pub Submits : {C : Type 0} → Queue → Request → Submitted C → Queue → Type 0
Submits old request Accepted new = new ≡ with_put old request
Submits old request (Full work) new = (arc_value work ≡ request) × (new ≡ old)
