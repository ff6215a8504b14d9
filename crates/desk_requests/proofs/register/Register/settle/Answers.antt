use Rattle.desk_requests.proofs.Answering.{within_register}
use Rattle.desk_requests.proofs.register.Register.settle.Goals as goal

pub accept-requires : goal.accept-requires
accept-requires c = let at = rw c.in-Asked.is at c.requires in at.0

pub close_at-requires : goal.close_at-requires
close_at-requires c = let at = rw c.in-Closed.is at c.requires in within_register c.args.self.now c.in-Closed.seat.place c.in-Closed.name.now at.0
