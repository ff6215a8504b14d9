use Rattle.std.proofs.Common.{◌≡◌, ◌<◌, ◌≤◌, ◌∙◌, ℕ, List, length, slice_get, string_bytes, sym, ap, arith}
use Rattle.std.proofs.lemmas.List.{length-map}
use Rattle.desk_requests.specs.State.{with_lane}
use Rattle.desk_requests.proofs.Names.{among_at, get_inside, last_at}
use Rattle.desk_serving.specs.LanesView.{lane_held, lanes_in, names_in}
use Rattle.desk_serving.proofs.Putting.{lanes_inside, with_lane-full, with_lane-known, with_lane-next}
use Rattle.desk_serving.proofs.named_lanes.Lanes.seat.Goals as goal

pub seat_at-requires : goal.seat_at-requires
seat_at-requires g c = (lanes_inside c.args.self.now c.in-Some.place (get_inside (names_in c.args.self.now) c.in-Some.place c.args.name.now c.in-Some.ensures.found)).1

pub returns-in-Some : goal.returns-in-Some
returns-in-Some g c =
    let self = c.args.self.now in let n = c.args.name.now in let place = c.in-Some.place in let all = length (lanes_in self) in
    let found = c.in-Some.ensures.found in let seat = c.seat_at.ensures in (
      ap (λ (p : ℕ). slice_get (with_lane all n (names_in self)) p) seat.place
          ∙ ap (λ (ns : List (List ℕ)). slice_get ns place) (with_lane-known all n (names_in self) (among_at n (names_in self) place found)) ∙ found,
      λ lane at. seat.closed lane (ap (λ (p : ℕ). slice_get (lanes_in self) p) (sym seat.place) ∙ at),
    )

pub returns-then-place-len : goal.returns-then-place-len
returns-then-place-len g c =
    let self = c.args.self.now in let n = c.args.name.now in let new = c.in_default.ensures.none in
    let full : length (lanes_in self) ≤ length (names_in self) =
    omega (arith, length-map self.names.items string_bytes, length-map self.clients.items lane_held, self.names.ok.0, self.clients.ok.0) in
    (with_lane-full (length (lanes_in self)) n (names_in self) new full, new)

pub seat_at-requires-2 : goal.seat_at-requires-2
seat_at-requires-2 g c =
    let self = c.args.self.now in omega (arith, length-map self.clients.items lane_held, self.clients.ok.0, self.names.ok.0)

pub returns : goal.returns
returns g c =
    let self = c.args.self.now in let n = c.args.name.now in let new = c.in_default.ensures.none in let seat = c.seat_at-2.ensures in let all = length (lanes_in self) in
    let place : length (names_in self) ≡ c.len-place.result = length-map self.names.items string_bytes ∙ omega (arith, self.names.ok.0) in
    let room : length (names_in self) < all = omega (arith, place, length-map self.clients.items lane_held, self.clients.ok.0) in (
      ap (λ (p : ℕ). slice_get (with_lane all n (names_in self)) p) (seat.place ∙ sym place)
          ∙ ap (λ (ns : List (List ℕ)). slice_get ns (length (names_in self))) (with_lane-next all n (names_in self) new room) ∙ last_at (names_in self) n,
      λ lane at. seat.closed lane (ap (λ (p : ℕ). slice_get (lanes_in self) p) (sym seat.place) ∙ at),
    )
