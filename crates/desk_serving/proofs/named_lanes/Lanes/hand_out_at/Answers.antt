use Rattle.std.proofs.Common.{◌≡◌, ◌<◌, ◌∙◌, ℕ, List, Some, length, slice_get, string_bytes, arith, ap}
use Rattle.std.proofs.lemmas.List.{length-map}
use Rattle.std.proofs.lemmas.Result.{on_ok_weaker}
use Rattle.lanes.proofs.Making.{links_kept}
use Rattle.desk_serving.specs.LanesView.{links_held, names_in}
use Rattle.desk_serving.proofs.Putting.{client_hands, lanes_inside}
use Rattle.desk_serving.proofs.named_lanes.Lanes.hand_out_at.Goals as goal
use Rattle.desk_requests.proofs.Names.{get_map, get_at}

pub returns-clause-same : goal.returns-clause-same
returns-clause-same g c =
    links_kept links_held c.args.self.now.clients.items c.args.place c.index_mut.result.now c.hand_out_next.new.self c.index_mut.ensures.value c.hand_out_next.ensures.same

pub returns-clause-hands : goal.returns-clause-hands
returns-clause-hands g c =
    let was = c.args.self.now in let place = c.args.place in let ns = names_in was in
    let own : place < length was.names.items = omega (arith, was.names.ok.0) in
    let few : place < length ns = omega (arith, own, length-map was.names.items string_bytes) in
    let at : slice_get ns place ≡ Some (string_bytes c.index.result.now) =
    get_map string_bytes was.names.items place c.index.result.now (get_at was.names.items place c.index.result.now own c.index.ensures) in
    let name : string_bytes c.index.result.now ≡ c.as_str.result.now = cc (c.as_str.ensures.value) in
    on_ok_weaker c.hand_out_next.result
    (λ h. client_hands ns was.clients.items place c.as_str.result.now c.index_mut.result.now c.hand_out_next.new.self c.args.text.now.items c.hand_out_next.new.text.items
    was.distinct (at ∙ ap (λ (n : List ℕ). Some n) name) (lanes_inside was place few).0 c.index_mut.ensures.value h)
    c.hand_out_next.ensures.hands
