use Rattle.std.proofs.Common.{◌≡◌, ◌<◌, ◌+◌, ℕ, List, Some, true, false, suc, length, get_or, take, string_bytes, subst, ap, ◌∙◌, arith, rules}
use Rattle.std.specs.Str.{bytes_eq}
use Rattle.std.proofs.lemmas.Grind.{common_steps}
use Rattle.feel_value.specs.Distinct.{is_among}
use Rattle.desk_requests.specs.Register.{names_of}
use Rattle.desk_requests.specs.declared.register.Client.{Client}
use Rattle.desk_requests.proofs.Names.{among_take, get_at, get_map, same_name}
use Rattle.desk_requests.proofs.register.Register.place_of.Goals as goal

pub returns-then-eq-clause-found : goal.returns-then-eq-clause-found
returns-then-eq-clause-found c =
    let clients = c.args.self.now.clients.items in let place = c.loop-place.place in let client = c.client-item.result in
    let within : place < length c.args.self.now.clients.items = first_of (omega arith, search rules) in
    let here : c.client-item.result ≡ get_or c.args.self.now.clients.items c.loop-place.place c.client-item.result = cc (c.client-item.is, c.deref-client-items.ensures.value) in
    let same : bytes_eq (string_bytes c.client-item.result.name) c.args.name.now ≡ true = first_of (search rules, grind (arith, common_steps)) in
    get_map (λ (x : Client). string_bytes x.name) clients place client (get_at clients place client within here)
    ∙ ap (λ (n : List ℕ). Some n) (same_name (string_bytes client.name) c.args.name.now same)

pub loop-place-preserved : goal.loop-place-preserved
loop-place-preserved c =
    let clients = c.args.self.now.clients.items in let place = c.loop-place.place in let client = c.client-item.result in
    let within : place < length c.args.self.now.clients.items = first_of (omega arith, search rules) in
    let here : c.client-item.result ≡ get_or c.args.self.now.clients.items c.loop-place.place c.client-item.result = cc (c.client-item.is, c.deref-client-items.ensures.value) in
    let other : bytes_eq (string_bytes c.client-item.result.name) c.args.name.now ≡ false = first_of (search rules, grind (arith, common_steps)) in
    let next : suc place ≡ place + 1 = omega arith in
    subst (λ (k : ℕ). is_among (take k (names_of c.args.self.now)) c.args.name.now ≡ false) next
    (among_take c.args.name.now (names_of c.args.self.now) place (string_bytes client.name)
    (get_map (λ (x : Client). string_bytes x.name) clients place client (get_at clients place client within here)) other c.loop-place.invariant)
