use Rattle.std.proofs.Common.{◌≡◌, ◌∙◌, List, Some, length, slice_get, slice_set, refl, sym, ap, subst}
use Rattle.std.proofs.lemmas.Result.{on_ok_weaker}
use Rattle.std.specs.Arc.{arc_value}
use Rattle.dmn_plan.specs.Request.{request_result}
use Rattle.desk_wire.specs.Reports.{Reply}
use Rattle.desk_requests.proofs.Names.{get_inside}
use Rattle.desk_serving.specs.LanesView.{lanes_in, names_in}
use Rattle.desk_serving.specs.Owed.{HandsThen, Queue, unhanded, with_put}
use Rattle.desk_serving.proofs.Putting.{put_then}
use Rattle.desk_serving.proofs.Settling.{is_answered, seat_found}
use Rattle.desk_serving.proofs.state.State.put.Goals as goal

pub name_at-requires : goal.name_at-requires
name_at-requires g c = c.requires.seat.0

pub put-requires : goal.put-requires
put-requires g c =
    let there = λ (lane : Queue) (at : slice_get (lanes_in c.name_at.new.self) c.args.seat.place ≡ Some lane). ap (λ (ls : List Queue). slice_get ls c.args.seat.place) (sym c.name_at.ensures.lanes) ∙ at in record {
      place = get_inside (names_in c.name_at.new.self) c.args.seat.place c.args.name.now (seat_found c.args.self.now.lanes c.name_at.new.self c.args.name.now c.args.seat c.requires.seat c.in_ok-name_at.ensures.names);
      few = λ lane at. c.requires.few c.args.seat.place lane (there lane at);
      «open» = λ lane at. sym (c.requires.seat.1 lane (there lane at)) ∙ c.requires.yet;
    }

pub returns-clause-answers : goal.returns-clause-answers
returns-clause-answers g c =
    let old = c.args.self.now in let mid = c.name_at.new.self in let n = c.args.name.now in let place = c.args.seat.place in let q = arc_value c.args.work in
    let same = c.name_at.ensures.lanes in
    on_ok_weaker c.put.result (λ puts text lane at.
    let there : slice_get (lanes_in mid) place ≡ Some lane = ap (λ (ls : List Queue). slice_get ls place) same ∙ at in
    let report = Reply n (length lane.put) (request_result q) in
    is_answered old _ mid n (slice_set (lanes_in old.lanes) place (with_put lane q)) report text text refl same c.in_ok-name_at.ensures.names c.put.ensures.names
    (ap unhanded (puts lane there) ∙ ap (λ (ls : List Queue). unhanded (slice_set ls place (with_put lane q))) same)
    (subst (λ (ls : List Queue). HandsThen (names_in mid) (lanes_in mid) ls report text text) (sym (puts lane there))
    (put_then (names_in mid) (lanes_in mid) place n lane q text mid.distinct (seat_found old.lanes mid n c.args.seat c.requires.seat c.in_ok-name_at.ensures.names) there))) c.put.ensures.puts
