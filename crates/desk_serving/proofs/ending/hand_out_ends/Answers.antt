use Rattle.std.proofs.Common.{◌≡◌, ◌<◌, ◌∙◌, sym, ap, length, map, set, slice_get, string_bytes, Some, arith}
use Rattle.std.proofs.lemmas.List.{length-set}
use Rattle.std.proofs.lemmas.Result.{err_from_is_err_and}
use Rattle.desk_serving.specs.Ending.{IsReady, ends_lanes}
use Rattle.desk_serving.specs.Owed.{AreFirst, AreFirstOwn, AreHanded, AreOwn, queue_in}
use Rattle.desk_serving.proofs.EndingLanes.{end_first, end_handed, holds_next, map_at, rest_after, whole_after}
use Rattle.desk_serving.proofs.Owing.{first_after, handed_then}
use Rattle.desk_serving.proofs.Outcomes.{out_broken, out_said}
use Rattle.desk_serving.proofs.Saying.{tells_then}
use Rattle.desk_serving.proofs.ending.hand_out_ends.Goals as goal
use Rattle.desk_requests.proofs.Names.{get_at}

pub hand_out_end-requires-clause-ready : goal.hand_out_end-requires-clause-ready
hand_out_end-requires-clause-ready g c =
    let place = c.loop-place.place in let ends = c.loop-place.ends.items in let end = c.index_mut.result.now in
    let within : place < length ends = omega (arith, c.loop-place.invariant.count) in
    holds_next IsReady place c.args.ends.now.items ends end c.requires.ready c.loop-place.invariant.rest (get_at ends place end within c.index_mut.ensures.value)

pub returns-in_err-hand_out_end-clause-handed : goal.returns-in_err-hand_out_end-clause-handed
returns-in_err-hand_out_end-clause-handed g c =
    let strings = c.args.names.now.items in let names = map string_bytes strings in let name = c.as_str.result.now in
    let place = c.loop-place.place in let first = ends_lanes c.args.ends.now.items in let ends = c.loop-place.ends.items in let end = c.index_mut.result.now in
    let within : place < length ends = omega (arith, c.loop-place.invariant.count) in
    let here : slice_get ends place ≡ Some end = get_at ends place end within c.index_mut.ensures.value in
    let at : slice_get names place ≡ Some name =
    map_at string_bytes strings place c.index.result.now (get_at strings place c.index.result.now (omega arith) c.index.ensures) ∙ ap Some (sym c.as_str.ensures.value) in
    let is = err_from_is_err_and c.from_residual.result c.from_residual.ensures.1 in
    rw (is.1, is.2)
    (out_broken (AreHanded names first (ends_lanes ends)) (AreOwn name (queue_in end) (queue_in c.hand_out_end.new.end)) (AreFirstOwn name (queue_in end)) _ (AreFirst names first)
    (g.W.Sink.seen c.args.writer.now) (g.W.Sink.seen c.loop-place.writer) (g.W.Sink.seen c.hand_out_end.new.writer) _ _ _ c.in_err-hand_out_end.field-0.0
    (λ m k p q. first_after names first (ends_lanes ends) m k p (end_first names ends place name end k c.requires.distinct at here q)) c.loop-place.invariant.tells c.loop-place.invariant.counts
    c.in_err-hand_out_end.ensures.handed)

pub loop-place-preserved : goal.loop-place-preserved
loop-place-preserved g c =
    let strings = c.args.names.now.items in let names = map string_bytes strings in let name = c.as_str.result.now in
    let place = c.loop-place.place in let first = c.args.ends.now.items in let ends = c.loop-place.ends.items in let end = c.index_mut.result.now in let new = c.hand_out_end.new.end in
    let within : place < length ends = omega (arith, c.loop-place.invariant.count) in
    let here : slice_get ends place ≡ Some end = get_at ends place end within c.index_mut.ensures.value in
    let at : slice_get names place ≡ Some name =
    map_at string_bytes strings place c.index.result.now (get_at strings place c.index.result.now (omega arith) c.index.ensures) ∙ ap Some (sym c.as_str.ensures.value) in
    record {
      count = length-set ends place new ∙ c.loop-place.invariant.count;
      rest = rest_after place first ends new c.loop-place.invariant.rest;
      whole = whole_after ends place end new here c.loop-place.invariant.whole c.in_ok-hand_out_end.ensures.whole;
      counts = c.in_ok-hand_out_end.ensures.handed.counts (λ e. cc) ∙ c.loop-place.invariant.counts;
      tells = tells_then (AreHanded names (ends_lanes first) (ends_lanes ends)) (AreOwn name (queue_in end) (queue_in new)) (AreHanded names (ends_lanes first) (ends_lanes (set ends place new))) _ _ _ _ _ _
          (λ m k p q. handed_then names (ends_lanes first) (ends_lanes ends) (ends_lanes (set ends place new)) m k p (end_handed names ends place name end new k c.requires.distinct at here q))
          c.loop-place.invariant.tells c.in_ok-hand_out_end.ensures.handed.ok;
    }

pub returns-clause-handed : goal.returns-clause-handed
returns-clause-handed g c = out_said _ _ (g.W.Sink.seen c.args.writer.now) (g.W.Sink.seen c.loop-place.writer) _ _ tt c.loop-place.invariant.tells c.loop-place.invariant.counts
