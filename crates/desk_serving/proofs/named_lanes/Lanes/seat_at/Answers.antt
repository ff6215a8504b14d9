use Rattle.std.proofs.Common.{◌∙◌, ◌<◌, arith, length, ap}
use Rattle.std.proofs.lemmas.List.{length-map}
use Rattle.desk_serving.specs.LanesView.{lane_held}
use Rattle.desk_serving.specs.Owed.{Queue}
use Rattle.desk_serving.proofs.Putting.{lane_at, some_same}
use Rattle.desk_serving.proofs.named_lanes.Lanes.seat_at.Goals as goal

pub returns-clause-closed : goal.returns-clause-closed
returns-clause-closed g c = λ lane at.
    let clients = c.args.self.now.clients.items in let client = c.index.result.now in
    let inside : c.args.place < length clients = omega (arith, length-map clients lane_held, c.requires) in
    c.is_closed.ensures ∙ ap (λ (l : Queue). l.closed) (some_same _ (lane_held client) lane (lane_at clients c.args.place client inside c.index.ensures) at)
