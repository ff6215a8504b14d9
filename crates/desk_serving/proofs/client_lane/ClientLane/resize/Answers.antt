use Rattle.desk_serving.proofs.Laning.{kept_lane, sized_lane}
use Rattle.desk_serving.proofs.client_lane.ClientLane.resize.Goals as goal

pub returns-in-Ok-clause-queue : goal.returns-in-Ok-clause-queue
returns-in-Ok-clause-queue g c = sized_lane c.args.client.now c.resize.new.self c.args.capacity c.resize.ensures.books.0 c.in-Ok.ensures.resized.1

pub returns-in-Memory-clause-queue : goal.returns-in-Memory-clause-queue
returns-in-Memory-clause-queue g c = kept_lane c.args.client.now c.resize.new.self c.resize.ensures.books.0 c.in-Err.ensures.unchanged

pub returns-in_default-clause-queue : goal.returns-in_default-clause-queue
returns-in_default-clause-queue g c = kept_lane c.args.client.now c.resize.new.self c.resize.ensures.books.0 c.in-Err.ensures.unchanged
