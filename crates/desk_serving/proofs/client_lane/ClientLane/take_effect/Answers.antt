use Rattle.std.proofs.Common.{sym}
use Rattle.desk_serving.specs.Owed.{queue_of}
use Rattle.desk_serving.proofs.Laning.{closed_lane, on_ok_so, shut_other}
use Rattle.desk_serving.proofs.client_lane.ClientLane.take_effect.Goals as goal

pub returns-in-Closed-clause-shut : goal.returns-in-Closed-clause-shut
returns-in-Closed-clause-shut g c =
    let old = c.args.client.now in
    rw c.in-Closed.is (closed_lane old c.close.new.self c.close.ensures.books.0 c.close.ensures.closed)

pub returns-in-Resized-clause-shut : goal.returns-in-Resized-clause-shut
returns-in-Resized-clause-shut g c = rw c.in-Resized.is (on_ok_so c.resize.result c.resize.ensures.queue)

pub returns-in_default-clause-shut : goal.returns-in_default-clause-shut
returns-in_default-clause-shut g c = sym (shut_other c.args.told (queue_of c.args.client.now) c.in_default.not-Closed)
