use Rattle.std.proofs.Common.{length}
use Rattle.box_core.specs.Views.{event_of, report_of}
use Rattle.desk_replaying.proofs.Counting.{still_counted}
use Rattle.desk_replaying.proofs.state.State.ask.Goals as goal

pub invariant_of-self : goal.invariant_of-self
invariant_of-self g c =
    record { counted = still_counted (length c.args.self.now.names.items) c.args.self.now.broker (event_of c.args.event) (report_of c.apply.result) c.apply.new.self c.apply.ensures c.args.self.now.counted; few = c.args.self.now.few }
