use Rattle.std.proofs.Common.{refl}
use Rattle.box_core.proofs.Calls.{resize_step}
use Rattle.box_core.proofs.broker.Broker.resize.Goals as goal

pub returns : goal.returns
returns g c =
    rw (← c.self.view_is)
    (resize_step g.W.Work.request g.W.Work.result_of c.self.inside.boxes.items c.args.client c.in-Some.mailbox.now c.resize.new.self c.in-Some.ensures.value (rw (← c.self.inside.boxes.ok.0) (c.in-Some.ensures.variant.0 refl)) c.args.capacity c.resize.result c.resize.ensures.resized c.resize.ensures.refused c.resize.ensures.unchanged)
