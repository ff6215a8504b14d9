use Rattle.std.proofs.Common.{◌≡◌, ◌∙◌, ap, slice_set}
use Rattle.std.specs.Arc.{arc_value}
use Rattle.lanes.proofs.Making.{links_kept}
use Rattle.desk_serving.specs.LanesView.{lane_held, lanes_in, links_held}
use Rattle.desk_serving.specs.Owed.{Queue, with_put}
use Rattle.desk_serving.proofs.Putting.{lane_at, lanes_inside, lanes_set, some_same}
use Rattle.desk_serving.proofs.named_lanes.Lanes.put.Goals as goal

pub put-requires : goal.put-requires
put-requires g c =
    let self = c.args.self.now in let old = c.index_mut.result.now in
    let there = lane_at self.clients.items c.args.place old (lanes_inside self c.args.place c.requires.place).0 c.index_mut.ensures.value in
    record { few = c.requires.few (lane_held old) there; «open» = c.requires.«open» (lane_held old) there }

pub returns-in_err-waits-clause-same : goal.returns-in_err-waits-clause-same
returns-in_err-waits-clause-same g c = links_kept links_held c.args.self.now.clients.items c.args.place c.index_mut.result.now c.put.new.self c.index_mut.ensures.value c.put.ensures.same

pub returns-clause-same : goal.returns-clause-same
returns-clause-same g c = links_kept links_held c.args.self.now.clients.items c.args.place c.index_mut.result.now c.put.new.self c.index_mut.ensures.value c.put.ensures.same

pub returns-clause-puts : goal.returns-clause-puts
returns-clause-puts g c = λ lane at.
    let self = c.args.self.now in let old = c.index_mut.result.now in
    let inside = (lanes_inside self c.args.place c.requires.place).0 in
    let is : lane_held old ≡ lane = some_same _ (lane_held old) lane (lane_at self.clients.items c.args.place old inside c.index_mut.ensures.value) at in
    lanes_set self.clients.items c.args.place c.put.new.self
    ∙ ap (λ (l : Queue). slice_set (lanes_in self) c.args.place l) (c.in_ok-waits.ensures.put ∙ ap (λ (l : Queue). with_put l (arc_value c.args.work)) is)
