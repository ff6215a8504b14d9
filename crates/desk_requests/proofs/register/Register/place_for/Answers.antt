use Rattle.std.proofs.Common.{◌≡◌, ◌<◌, ◌++◌, ◌∷◌, [], ℕ, List, Some, false, length, slice_get, string_bytes, subst, sym, ap, ◌∙◌, arith, is_ok, map}
use Rattle.std.proofs.lemmas.List.{map-append, length-map}
use Rattle.feel_value.specs.Distinct.{is_among}
use Rattle.desk_requests.specs.Register.{client_view, clients_of, fresh, name_of, names_of}
use Rattle.desk_requests.specs.declared.register.Client.{Client}
use Rattle.desk_requests.proofs.Answering.{names_are}
use Rattle.desk_requests.proofs.Booking.{same_with, with_more}
use Rattle.desk_requests.proofs.Names.{among_at, last_at}
use Rattle.desk_requests.proofs.register.Register.place_for.Goals as goal

pub returns-in-Some-clause-clients : goal.returns-in-Some-clause-clients
returns-in-Some-clause-clients c =
    let self = c.args.self.now in
    sym (same_with self.lanes c.args.name.now (clients_of self)
    (ap (λ ns. is_among ns c.args.name.now) (sym (names_are self.clients.items)) ∙ among_at c.args.name.now (names_of self) c.in-Some.place c.in-Some.ensures.found))

pub returns-clause-clients : goal.returns-clause-clients
returns-clause-clients c =
    let self = c.args.self.now in
    let absent : is_among (map name_of (clients_of self)) c.args.name.now ≡ false = ap (λ ns. is_among ns c.args.name.now) (sym (names_are self.clients.items)) ∙ c.in_default.ensures.none in
    let room : length (clients_of self) < self.lanes = omega (arith, length-map self.clients.items client_view, self.clients.ok.0, c.len-place.ensures, c.if-place-self.false) in
    let all = ap (map client_view) c.in_ok-push.ensures.items ∙ map-append client_view self.clients.items _ in
    all ∙ ap (λ n. clients_of self ++ fresh n ∷ []) c.in_ok-name.ensures.ok ∙ sym (with_more self.lanes c.args.name.now (clients_of self) absent room)

pub returns-clause-found : goal.returns-clause-found
returns-clause-found c =
    let self = c.args.self.now in
    let held = λ (x : Client). string_bytes x.name in
    let all = ap (map held) c.in_ok-push.ensures.items ∙ map-append held self.clients.items _ in
    let place : length (names_of self) ≡ c.len-place.result = omega (arith, length-map self.clients.items held, self.clients.ok.0, c.len-place.ensures) in
    ap (λ (xs : List (List ℕ)). slice_get xs c.len-place.result) all ∙ ap (λ (k : ℕ). slice_get (names_of self ++ string_bytes c.in_ok-name.name ∷ []) k) (sym place)
    ∙ last_at (names_of self) (string_bytes c.in_ok-name.name) ∙ ap (λ (n : List ℕ). Some n) c.in_ok-name.ensures.ok
