use Rattle.std.proofs.Common.{◌≡◌, ◌<◌, ◌∙◌, Some, ap, arith, length, slice_get, sym}
use Rattle.std.proofs.lemmas.Result.{on_ok_weaker}
use Rattle.std.specs.Arc.{arc_value}
use Rattle.std.specs.List.{remove}
use Rattle.desk_requests.proofs.Names.{get_at}
use Rattle.desk_serving.specs.LanesView.{lane_held}
use Rattle.desk_serving.specs.Owed.{queue_of, with_put}
use Rattle.desk_serving.specs.Waits.{with_waits}
use Rattle.desk_serving.proofs.Laning.{own_none, some_by, waits_first}
use Rattle.desk_serving.proofs.client_lane.ClientLane.go_first.Goals as goal

pub enter-requires : goal.enter-requires
enter-requires g c =
    let waits = c.args.self.now.waits in let first = c.index.result.now in
    let some : 0 < length waits.items = omega (arith, waits.ok.0, some_by c.is_empty.result _ c.is_empty.ensures c.if-is_empty.false) in
    let here : slice_get waits.items 0 ≡ Some first = get_at waits.items 0 first some c.index.ensures in record {
      some = some;
      first = λ lane. waits_first waits.items _ (here ∙ ap Some c.in-Request.is) lane ∙ ap (λ q. with_waits (with_put lane q) (remove waits.items 0)) (sym c.in_ok-work-in-Request.ensures);
    }

pub tell_first-requires : goal.tell_first-requires
tell_first-requires g c =
    let waits = c.args.self.now.waits in let first = c.index.result.now in
    let some : 0 < length waits.items = omega (arith, waits.ok.0, some_by c.is_empty.result _ c.is_empty.ensures c.if-is_empty.false) in
    let here : slice_get waits.items 0 ≡ Some first = get_at waits.items 0 first some c.index.ensures in record {
      some = some;
      first = λ lane. waits_first waits.items _ (here ∙ ap Some c.in-Told.is) lane;
    }

pub returns-in_ok-work-in-Request-clause-hands : goal.returns-in_ok-work-in-Request-clause-hands
returns-in_ok-work-in-Request-clause-hands g c =
    on_ok_weaker c.enter.result (λ same. own_none c.args.name.now (lane_held c.args.self.now) (lane_held c.enter.new.self) c.args.text.now.items same) c.enter.ensures.lane
