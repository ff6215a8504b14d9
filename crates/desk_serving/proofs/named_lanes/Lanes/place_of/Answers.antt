use Rattle.std.proofs.Common.{◌≡◌, ◌<◌, ◌+◌, ℕ, List, Some, true, false, suc, length, get_or, take, string_bytes, subst, ap, ◌∙◌, arith, rules}
use Rattle.std.specs.Str.{bytes_eq}
use Rattle.std.proofs.lemmas.Grind.{common_steps}
use Rattle.desk_serving.specs.LanesView.{names_in}
use Rattle.feel_value.specs.Distinct.{is_among}
use Rattle.desk_requests.proofs.Names.{same_name, get_map, get_at, among_take}
use Rattle.desk_serving.proofs.named_lanes.Lanes.place_of.Goals as goal

pub returns-then-eq-clause-found : goal.returns-then-eq-clause-found
returns-then-eq-clause-found g c =
    let names = c.args.self.now.names.items in let place = c.loop-place.place in
    let within : place < length c.args.self.now.names.items = first_of (omega arith, search rules) in
    let here : c.known-item.result ≡ get_or c.args.self.now.names.items c.loop-place.place c.known-item.result = cc (c.known-item.is, c.deref-known-items.ensures.value) in
    let same : bytes_eq (string_bytes c.known-item.result) c.args.name.now ≡ true = first_of (search rules, grind (arith, common_steps)) in
    get_map string_bytes names place c.known-item.result (get_at names place c.known-item.result within here)
    ∙ ap (λ (n : List ℕ). Some n) (same_name (string_bytes c.known-item.result) c.args.name.now same)

pub loop-place-preserved : goal.loop-place-preserved
loop-place-preserved g c =
    let names = c.args.self.now.names.items in let place = c.loop-place.place in
    let within : place < length c.args.self.now.names.items = first_of (omega arith, search rules) in
    let here : c.known-item.result ≡ get_or c.args.self.now.names.items c.loop-place.place c.known-item.result = cc (c.known-item.is, c.deref-known-items.ensures.value) in
    let other : bytes_eq (string_bytes c.known-item.result) c.args.name.now ≡ false = first_of (search rules, grind (arith, common_steps)) in
    let next : suc place ≡ place + 1 = omega arith in
    subst (λ (k : ℕ). is_among (take k (names_in c.args.self.now)) c.args.name.now ≡ false) next
    (among_take c.args.name.now (names_in c.args.self.now) place (string_bytes c.known-item.result)
    (get_map string_bytes names place c.known-item.result (get_at names place c.known-item.result within here)) other c.loop-place.invariant)
