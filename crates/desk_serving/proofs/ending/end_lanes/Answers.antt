use Rattle.std.proofs.Common.{◌≡◌, ◌∙◌, List, ap, arith, subst, sym, length, map, string_bytes, refl}
use Rattle.std.proofs.lemmas.List.{length-map}
use Rattle.std.proofs.lemmas.Result.{err_from_is_err_and}
use Rattle.lanes.specs.Clients.{client_links}
use Rattle.lanes.specs.Links.{AreOfOneCall, Link}
use Rattle.lanes.specs.Workers.{worker_links}
use Rattle.desk_serving.specs.Ending.{ends_lanes}
use Rattle.desk_serving.specs.LanesView.{client_held, lanes_in, links_in, names_in}
use Rattle.desk_serving.specs.Owed.{AreFirst, AreHanded, Queue, due_to, queue_of}
use Rattle.desk_serving.specs.Telling.{WritesOut}
use Rattle.desk_serving.proofs.EndingLanes.{settled_lanes, settled_ready, settled_count, all_whole}
use Rattle.desk_serving.proofs.Outcomes.{went, written_err, written_none, written_ok}
use Rattle.desk_serving.proofs.Putting.{clear_lanes, held_links}
use Rattle.desk_serving.proofs.Running.{failed}
use Rattle.desk_serving.proofs.ending.end_lanes.Goals as goal

pub settle-requires : goal.settle-requires
settle-requires g c =
    let links : map client_links c.in_ok-own.own.items ≡ links_in c.args.lanes = ap (map client_links) c.in_ok-own.ensures ∙ held_links c.args.lanes.clients.items in
    subst (λ (ls : List (List Link)). AreOfOneCall ls (map worker_links c.args.workers.items)) (sym links) c.requires.ends

pub hand_out_rest-requires-clause-named : goal.hand_out_rest-requires-clause-named
hand_out_rest-requires-clause-named g c =
    let same = settled_count 0 _ _ _ c.in-Ok.ensures.settled in
    omega (arith, c.args.lanes.named, same, ap length c.in_ok-own.ensures, length-map c.args.lanes.clients.items client_held)

pub hand_out_rest-requires-clause-ready : goal.hand_out_rest-requires-clause-ready
hand_out_rest-requires-clause-ready g c = settled_ready 0 _ _ _ c.in-Ok.ensures.settled

pub returns-in_err-own-clause-written : goal.returns-in_err-own-clause-written
returns-in_err-own-clause-written g c =
    let names = names_in c.args.lanes in let lanes = lanes_in c.args.lanes in
    let is = err_from_is_err_and c.from_residual.result c.from_residual.ensures.1 in
    rw (is.1, is.2) (written_none _ (AreFirst names lanes) _ (λ who. (due_to who names lanes, refl)))

pub returns-in_default-clause-written : goal.returns-in_default-clause-written
returns-in_default-clause-written g c =
    let names = names_in c.args.lanes in let lanes = lanes_in c.args.lanes in
    written_none _ (AreFirst names lanes) _ (λ who. (due_to who names lanes, refl))

pub returns-in_err-hand_out_rest-clause-written : goal.returns-in_err-hand_out_rest-clause-written
returns-in_err-hand_out_rest-clause-written g c =
    let names = names_in c.args.lanes in let ends = ends_lanes c.hand_out_rest.new.ends.items in let fault = c.in_err-hand_out_rest.field-0.0 in
    let is = err_from_is_err_and c.from_residual-in_err-hand_out_rest.result c.from_residual-in_err-hand_out_rest.ensures.1 in
    rw (is.1, is.2)
    (written_err (λ (x : Unit {0}). AreHanded names (lanes_in c.args.lanes) ends) _ (AreFirst names (lanes_in c.args.lanes)) _ _ fault
    (subst (λ (ls : List Queue). WritesOut (λ (x : Unit {0}). AreHanded names ls ends) (AreFirst names ls) (g.W.Sink.seen c.args.writer.now) (g.W.Sink.seen c.hand_out_rest.new.writer) (failed (Unit {0}) fault))
    (settled_lanes 0 _ _ _ c.in-Ok.ensures.settled ∙ ap (map queue_of) c.in_ok-own.ensures ∙ clear_lanes c.args.lanes.clients.items c.requires.clear) c.in_err-hand_out_rest.ensures.written))

pub returns-clause-written : goal.returns-clause-written
returns-clause-written g c =
    let names = names_in c.args.lanes in let ends = ends_lanes c.hand_out_rest.new.ends.items in
    written_ok (λ (x : Unit {0}). AreHanded names (lanes_in c.args.lanes) ends) _ (AreFirst names (lanes_in c.args.lanes)) _ _ tt c.hand_out_rest.new.ends (λ m p. p)
    (subst (λ (ls : List Queue). WritesOut (λ (x : Unit {0}). AreHanded names ls ends) (AreFirst names ls) (g.W.Sink.seen c.args.writer.now) (g.W.Sink.seen c.hand_out_rest.new.writer) (went (Unit {0}) tt))
    (settled_lanes 0 _ _ _ c.in-Ok.ensures.settled ∙ ap (map queue_of) c.in_ok-own.ensures ∙ clear_lanes c.args.lanes.clients.items c.requires.clear) c.in_ok-hand_out_rest.ensures.written)

pub returns-clause-whole : goal.returns-clause-whole
returns-clause-whole g c =
    let names = c.args.lanes.names.items in
    all_whole (length names) _ _ _ (settled_lanes 0 _ _ _ c.in-Ok.ensures.settled ∙ ap (map queue_of) c.in_ok-own.ensures ∙ clear_lanes c.args.lanes.clients.items c.requires.clear) c.in_ok-hand_out_rest.ensures.whole c.in_ok-hand_out_rest.ensures.rest
    (λ k lane le at. let long = length-map names string_bytes in c.requires.new k lane (omega (arith, le)) at)
