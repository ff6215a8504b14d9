use Rattle.std.proofs.Common.{◌≡◌, ◌<◌, ◌∙◌, ℕ, List, Some, ap, arith, length, map, slice_get, slice_set, string_bytes, subst, sym}
use Rattle.std.proofs.lemmas.List.{length-map}
use Rattle.lanes.proofs.Making.{links_kept}
use Rattle.desk_requests.proofs.Names.{get_at, get_map}
use Rattle.desk_serving.specs.LanesView.{AreClear, lane_held, lanes_in, links_held, names_in}
use Rattle.desk_serving.specs.Owed.{Hands, Queue}
use Rattle.desk_serving.proofs.Owing.{hands_none}
use Rattle.desk_serving.proofs.Putting.{clear_kept, client_hands, lanes_inside}
use Rattle.desk_serving.proofs.named_lanes.Lanes.go_on_at.Goals as goal

pub returns-in_err-gone-clause-same : goal.returns-in_err-gone-clause-same
returns-in_err-gone-clause-same g c = links_kept links_held c.args.self.now.clients.items c.args.place c.index_mut.result.now c.go_first.new.self c.index_mut.ensures.value c.go_first.ensures.same

pub returns-in_default-clause-same : goal.returns-in_default-clause-same
returns-in_default-clause-same g c = links_kept links_held c.args.self.now.clients.items c.args.place c.index_mut.result.now c.go_first.new.self c.index_mut.ensures.value c.go_first.ensures.same

pub returns-in_default-clause-clear : goal.returns-in_default-clause-clear
returns-in_default-clause-clear g c = λ w.
    let was = c.args.self.now in
    clear_kept was.clients.items c.args.place c.index_mut.result.now c.go_first.new.self (lanes_inside was c.args.place c.requires.place).0 c.index_mut.ensures.value c.go_first.ensures.clear w

pub returns-in_default-clause-hands : goal.returns-in_default-clause-hands
returns-in_default-clause-hands g c =
    let was = c.args.self.now in let place = c.args.place in let ns = names_in was in
    let own : place < length was.names.items = omega (arith, c.requires.place, length-map was.names.items string_bytes) in
    let at : slice_get ns place ≡ Some (string_bytes c.index.result.now) = get_map string_bytes was.names.items place c.index.result.now (get_at was.names.items place c.index.result.now own c.index.ensures) in
    let name : string_bytes c.index.result.now ≡ c.as_str.result.now = cc (c.as_str.ensures.value) in
    client_hands ns was.clients.items place c.as_str.result.now c.index_mut.result.now c.go_first.new.self c.args.text.now.items c.go_first.new.text.items
    was.distinct (at ∙ ap (λ (n : List ℕ). Some n) name) (lanes_inside was place c.requires.place).0 c.index_mut.ensures.value c.in_ok-gone.ensures.hands

pub returns-clause-same : goal.returns-clause-same
returns-clause-same g c =
    ap (λ v. map links_held v.items) c.note.ensures.clients
    ∙ links_kept links_held c.args.self.now.clients.items c.args.place c.index_mut.result.now c.go_first.new.self c.index_mut.ensures.value c.go_first.ensures.same

pub returns-clause-names : goal.returns-clause-names
returns-clause-names g c = ap (λ v. map string_bytes v.items) c.note.ensures.names

pub returns-clause-clear : goal.returns-clause-clear
returns-clause-clear g c = λ w.
    let was = c.args.self.now in
    subst (λ v. AreClear v.items) (sym c.note.ensures.clients)
    (clear_kept was.clients.items c.args.place c.index_mut.result.now c.go_first.new.self (lanes_inside was c.args.place c.requires.place).0 c.index_mut.ensures.value c.go_first.ensures.clear w)

pub returns-clause-hands : goal.returns-clause-hands
returns-clause-hands g c =
    let was = c.args.self.now in let place = c.args.place in let ns = names_in was in
    let own : place < length was.names.items = omega (arith, c.requires.place, length-map was.names.items string_bytes) in
    let at : slice_get ns place ≡ Some (string_bytes c.index.result.now) = get_map string_bytes was.names.items place c.index.result.now (get_at was.names.items place c.index.result.now own c.index.ensures) in
    let name : string_bytes c.index.result.now ≡ c.as_str.result.now = cc (c.as_str.ensures.value) in
    subst (λ (ls : List Queue). Hands ns (lanes_in was) ls c.args.text.now.items c.go_first.new.text.items) (sym (ap (λ v. map lane_held v.items) c.note.ensures.clients))
    (client_hands ns was.clients.items place c.as_str.result.now c.index_mut.result.now c.go_first.new.self c.args.text.now.items c.go_first.new.text.items
    was.distinct (at ∙ ap (λ (n : List ℕ). Some n) name) (lanes_inside was place c.requires.place).0 c.index_mut.ensures.value c.in_ok-gone.ensures.hands)
