use Rattle.desk_requests.proofs.Answering.{within_register}
use Rattle.desk_requests.proofs.register.RegisterDecider.seat.Goals as goal

pub is_closed_at-requires : goal.is_closed_at-requires
is_closed_at-requires c = within_register c.place_for.new.self c.in-Some.place c.args.name.now (rw c.in-Some.is at c.in_ok-place.ensures.found)
