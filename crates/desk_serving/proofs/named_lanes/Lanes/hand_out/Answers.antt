use Rattle.std.proofs.Common.{◌≡◌, ◌<◌, ℕ, List, Some, length, slice_get, sym, ap, ◌∙◌, arith, string_bytes}
use Rattle.std.proofs.lemmas.List.{length-map}
use Rattle.lanes.proofs.Making.{links_kept}
use Rattle.desk_serving.specs.LanesView.{lanes_in, links_held, names_in}
use Rattle.desk_serving.proofs.Owing.{hands_then}
use Rattle.desk_serving.proofs.Putting.{clear_kept, client_hands, lanes_inside, polled_next}
use Rattle.desk_serving.proofs.named_lanes.Lanes.hand_out.Goals as goal
use Rattle.desk_requests.proofs.Names.{get_map, get_at}

pub returns-in_err-hand_out_next-clause-same : goal.returns-in_err-hand_out_next-clause-same
returns-in_err-hand_out_next-clause-same g c =
    links_kept links_held c.loop-place.self.clients.items c.loop-place.place c.index_mut.result.now c.hand_out_next.new.self c.index_mut.ensures.value c.hand_out_next.ensures.same
    ∙ c.loop-place.invariant.links

pub loop-place-preserved : goal.loop-place-preserved
loop-place-preserved g c =
    let was = c.args.self.now in let self = c.loop-place.self in let place = c.loop-place.place in let inv = c.loop-place.invariant in
    let ns = names_in was in
    let same : length (names_in self) ≡ length ns = ap (λ (xs : List (List ℕ)). length xs) inv.names in
    let first : place < length was.names.items = omega (arith, was.names.ok.0) in
    let few : place < length (names_in self) = omega (arith, same, first, length-map was.names.items string_bytes) in
    let own : place < length self.names.items = omega (arith, few, length-map self.names.items string_bytes) in
    let at : slice_get ns place ≡ Some (string_bytes c.index.result.now) =
    ap (λ (xs : List (List ℕ)). slice_get xs place) (sym inv.names) ∙ get_map string_bytes self.names.items place c.index.result.now (get_at self.names.items place c.index.result.now own c.index.ensures) in
    let name : string_bytes c.index.result.now ≡ c.as_str.result.now = cc (c.as_str.ensures.value) in
    record {
      links = links_kept links_held self.clients.items place c.index_mut.result.now c.hand_out_next.new.self c.index_mut.ensures.value c.hand_out_next.ensures.same ∙ inv.links;
      names = inv.names;
      clear = λ w. clear_kept self.clients.items place c.index_mut.result.now c.hand_out_next.new.self (lanes_inside self place few).0 c.index_mut.ensures.value
          (λ none. ap (λ v. v.items) c.hand_out_next.ensures.waits ∙ none) (inv.clear w);
      polled = polled_next place was.clients.items self.clients.items c.index_mut.result.now c.hand_out_next.new.self (lanes_inside self place few).0 c.index_mut.ensures.value c.hand_out_next.ensures.polled inv.polled;
      hands = hands_then ns (lanes_in was) (lanes_in self) _ c.args.text.now.items c.loop-place.text.items c.hand_out_next.new.text.items inv.hands
          (client_hands ns self.clients.items place c.as_str.result.now c.index_mut.result.now c.hand_out_next.new.self c.loop-place.text.items c.hand_out_next.new.text.items
          was.distinct (at ∙ ap (λ (n : List ℕ). Some n) name) (lanes_inside self place few).0 c.index_mut.ensures.value c.in_ok-hand_out_next.ensures.hands);
    }
