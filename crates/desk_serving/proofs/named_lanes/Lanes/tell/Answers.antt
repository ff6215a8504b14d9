use Rattle.std.proofs.Common.{◌≡◌, ◌∙◌, List, Some, ap, map, slice_get, slice_set, string_bytes, subst, sym}
use Rattle.lanes.proofs.Making.{links_kept}
use Rattle.desk_requests.proofs.Names.{get_inside}
use Rattle.desk_serving.specs.LanesView.{lane_held, lanes_in, links_held, names_in}
use Rattle.desk_serving.specs.Owed.{Hands, Queue, unhanded, with_told}
use Rattle.desk_serving.proofs.Owing.{set_at, unhanded-set}
use Rattle.desk_serving.proofs.Putting.{client_told, lane_at, lanes_inside, lanes_set, set_twice, some_same, told_then}
use Rattle.desk_serving.proofs.named_lanes.Lanes.tell.Goals as goal

pub returns-in_err-waits-clause-same : goal.returns-in_err-waits-clause-same
returns-in_err-waits-clause-same g c = links_kept links_held c.args.self.now.clients.items c.args.place c.index_mut.result.now c.tell.new.self c.index_mut.ensures.value c.tell.ensures.same

pub returns-clause-same : goal.returns-clause-same
returns-clause-same g c =
    ap (λ v. map links_held v.items) c.note_told.ensures.clients
    ∙ links_kept links_held c.args.self.now.clients.items c.args.place c.index_mut.result.now c.tell.new.self c.index_mut.ensures.value c.tell.ensures.same

pub returns-clause-names : goal.returns-clause-names
returns-clause-names g c = ap (λ v. map string_bytes v.items) c.note_told.ensures.names

pub returns-clause-lanes : goal.returns-clause-lanes
returns-clause-lanes g c = λ lane at.
    let was = c.args.self.now in let place = c.args.place in let old = c.index_mut.result.now in let new = c.tell.new.self in
    let inside = (lanes_inside was place (get_inside (names_in was) place c.args.name.now c.requires.place)).0 in
    let is : lane_held old ≡ lane = some_same _ (lane_held old) lane (lane_at was.clients.items place old inside c.index_mut.ensures.value) at in
    let own = c.in_ok-waits.ensures.hands.handed in let told = with_told c.args.number c.args.told (lane_held old) in
    let there : slice_get (slice_set (lanes_in was) place told) place ≡ Some told = set_at (lanes_in was) place lane told at in
    ap unhanded (ap (λ v. map lane_held v.items) c.note_told.ensures.clients ∙ lanes_set was.clients.items place new ∙ sym (set_twice (lanes_in was) place told (lane_held new)))
    ∙ unhanded-set (slice_set (lanes_in was) place told) place told (lane_held new) there own.put own.closed
    ∙ ap (λ (l : Queue). unhanded (slice_set (lanes_in was) place (with_told c.args.number c.args.told l))) is

pub returns-clause-hands : goal.returns-clause-hands
returns-clause-hands g c =
    let was = c.args.self.now in let place = c.args.place in let ns = names_in was in let old = c.index_mut.result.now in let new = c.tell.new.self in
    let inside = (lanes_inside was place (get_inside ns place c.args.name.now c.requires.place)).0 in
    let there = lane_at was.clients.items place old inside c.index_mut.ensures.value in
    let s = c.args.text.now.items in let t = c.tell.new.text.items in
    told_then ns (lanes_in was) _ place c.args.number c.args.told c.args.name.now (lane_held old) s t was.distinct c.requires.place there
    (subst (λ (ls : List Queue). Hands ns (slice_set (lanes_in was) place (with_told c.args.number c.args.told (lane_held old))) ls s t) (sym (ap (λ v. map lane_held v.items) c.note_told.ensures.clients))
    (client_told ns was.clients.items place c.args.number c.args.told c.args.name.now old new s t was.distinct c.requires.place inside c.index_mut.ensures.value c.in_ok-waits.ensures.hands))
