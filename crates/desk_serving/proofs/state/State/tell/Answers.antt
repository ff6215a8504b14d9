use Rattle.std.proofs.Common.{◌≡◌, ◌∙◌, List, Some, ap, refl, slice_get, slice_set}
use Rattle.desk_wire.specs.Reports.{Of}
use Rattle.desk_serving.specs.LanesView.{lanes_in, names_in}
use Rattle.desk_serving.specs.Owed.{Queue, unhanded, with_told}
use Rattle.desk_serving.proofs.Hearing.{on_ok_both}
use Rattle.desk_serving.proofs.Settling.{is_answered, seat_found}
use Rattle.desk_serving.proofs.state.State.tell.Goals as goal

pub name_at-requires : goal.name_at-requires
name_at-requires g c = c.requires.seat.0

pub tell-requires : goal.tell-requires
tell-requires g c = record { place = seat_found c.args.self.now.lanes c.name_at.new.self c.args.name.now c.args.seat c.requires.seat c.in_ok-name_at.ensures.names }

pub returns-clause-answers : goal.returns-clause-answers
returns-clause-answers g c =
    let old = c.args.self.now in let mid = c.name_at.new.self in let n = c.args.name.now in let place = c.args.seat.place in let k = c.args.number in let what = c.args.told in
    let same = c.name_at.ensures.lanes in
    on_ok_both c.tell.result (λ kept hands lane at.
    let there : slice_get (lanes_in mid) place ≡ Some lane = ap (λ (ls : List Queue). slice_get ls place) same ∙ at in
    is_answered old _ mid n (slice_set (lanes_in old.lanes) place (with_told k what lane)) (Of n k what) _ _ refl same c.in_ok-name_at.ensures.names c.tell.ensures.names
    (kept lane there ∙ ap (λ (ls : List Queue). unhanded (slice_set ls place (with_told k what lane))) same) hands) c.tell.ensures.lanes c.tell.ensures.hands
