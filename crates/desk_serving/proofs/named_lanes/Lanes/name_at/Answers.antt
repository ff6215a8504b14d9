use Rattle.std.proofs.Common.{◌≡◌, ◌<◌, ◌≤◌, ◌++◌, ◌∷◌, [], ℕ, List, false, length, string_bytes, subst, sym, ap, ◌∙◌, arith, is_ok, map, refl}
use Rattle.std.specs.Prelude.{nat_le}
use Rattle.std.proofs.lemmas.List.{map-append, length-map}
use Rattle.feel_value.specs.Distinct.{is_among}
use Rattle.desk_serving.specs.LanesView.{lane_held, lanes_in, names_in}
use Rattle.desk_serving.proofs.Putting.{pushed_names, with_lane-gets, with_lane-had, with_lane-next}
use Rattle.desk_serving.proofs.named_lanes.Lanes.name_at.Goals as goal

pub returns-then-place-len-clause-names : goal.returns-then-place-len-clause-names
returns-then-place-len-clause-names g c =
    let self = c.args.self.now in let n = c.args.name.now in let all = length (lanes_in self) in
    let inside : c.args.place < length (names_in self) = omega (arith, length-map self.names.items string_bytes, self.names.ok.0) in
    sym (with_lane-had all n (names_in self) c.args.place (is_among (names_in self) n) (nat_le all (length (names_in self))) refl refl c.requires inside)

pub invariant_of-self-2 : goal.invariant_of-self-2
invariant_of-self-2 g c =
    let self = c.args.self.now in let s = c.in_ok-from_str.field-0 in let n = c.args.name.now in let all = length (lanes_in self) in
    let beyond : length (names_in self) ≤ c.args.place = omega (arith, length-map self.names.items string_bytes, self.names.ok.0) in
    let gets = with_lane-gets all n (names_in self) c.args.place (is_among (names_in self) n) (nat_le all (length (names_in self))) refl refl c.requires beyond in
    let is : n ≡ string_bytes c.in_ok-from_str.field-0 = cc (c.in_ok-from_str.ensures.ok) in
    let new : is_among (names_in self) (string_bytes s) ≡ false = subst (λ (m : List ℕ). is_among (names_in self) m ≡ false) is gets.0 in
    let room : length self.names.items < length self.clients.items = omega (arith, gets.1, length-map self.names.items string_bytes, length-map self.clients.items lane_held) in
    let made = pushed_names string_bytes self.clients.items self.names.items c.push.new.self.items s (is_ok c.push.result) c.push.ensures.items self.distinct new room in
    record { named = made.0; distinct = made.1 }

pub returns-clause-names : goal.returns-clause-names
returns-clause-names g c =
    let self = c.args.self.now in let s = c.in_ok-from_str.field-0 in let n = c.args.name.now in let all = length (lanes_in self) in
    let beyond : length (names_in self) ≤ c.args.place = omega (arith, length-map self.names.items string_bytes, self.names.ok.0) in
    let gets = with_lane-gets all n (names_in self) c.args.place (is_among (names_in self) n) (nat_le all (length (names_in self))) refl refl c.requires beyond in
    let is : string_bytes c.in_ok-from_str.field-0 ≡ n = cc (c.in_ok-from_str.ensures.ok) in
    ap (map string_bytes) c.in_ok-push.ensures.items ∙ map-append string_bytes self.names.items (s ∷ []) ∙ ap (λ (m : List ℕ). names_in self ++ m ∷ []) is
    ∙ sym (with_lane-next all n (names_in self) gets.0 gets.1)
