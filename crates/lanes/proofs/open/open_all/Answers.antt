use Rattle.std.proofs.lemmas.Result.{err_from_is_err_and}
use Rattle.std.proofs.Common.{◌≡◌, map, length, sym, ap, ◌∙◌, subst, arith, rules}
use Rattle.lanes.specs.Links.{empties, AreOfOneCall}
use Rattle.lanes.specs.Made.{AreNew}
use Rattle.lanes.specs.Clients.{client_links}
use Rattle.lanes.specs.Workers.{worker_links}
use Rattle.lanes.proofs.Crossing.{one_call_none}
use Rattle.lanes.proofs.Making.{few_lanes, lanes_more, new_none, new_more, worker_links_none, idle_none, map_length}
use Rattle.lanes.proofs.open.open_all.Goals as goal

pub loop-lane-init : goal.loop-lane-init
loop-lane-init g c =
    let made = c.in_ok-crew.ensures in let crew = c.in_ok-crew.crew.items in
    let links = worker_links_none crew c.args.workers made.empty in
    let many : c.args.workers ≡ length (map worker_links crew) = (let n = map_length worker_links crew in omega (arith, n, made.len, c.in_ok-crew.crew.ok.0)) in
    record {
      count = search rules;
      one_call = subst (λ l. AreOfOneCall (map client_links l) (map worker_links crew)) (sym c.new-ends.ensures.items) (one_call_none (map worker_links crew) (links ∙ ap (λ n. empties n) many));
      new = (subst (λ l. AreNew c.args.capacity l) (sym c.new-ends.ensures.items) (new_none c.args.capacity), idle_none crew c.args.workers made.empty);
    }

pub open_lane-requires-clause-few : goal.open_lane-requires-clause-few
open_lane-requires-clause-few g c = few_lanes c.loop-lane.ends.items c.loop-lane.crew.items c.loop-lane.invariant.one_call (omega (arith, c.loop-lane.invariant.count.0, c.loop-lane-test.true, c.requires.0, c.loop-lane.ends.ok.0))

pub loop-lane-preserved : goal.loop-lane-preserved
loop-lane-preserved g c =
    let inv = c.loop-lane.invariant in let opened = c.in_ok-client.ensures in let pushed = c.in_ok-push.ensures in
    record {
      count = search rules;
      one_call = lanes_more c.loop-lane.ends.items c.push.new.self.items c.loop-lane.crew.items c.open_lane.new.crew.items c.in_ok-client.client inv.one_call pushed.items (let n = opened.links.0 in omega (arith, n, c.loop-lane.crew.ok.0)) opened.links.1;
      new = (new_more c.args.capacity c.loop-lane.ends.items c.push.new.self.items c.in_ok-client.client inv.new.0 pushed.items opened.new, opened.idle inv.new.1);
    }

pub returns-in_err-crew : goal.returns-in_err-crew
returns-in_err-crew g c =
    let e = (err_from_is_err_and c.from_residual-in_err-crew.result c.from_residual-in_err-crew.ensures.1).1 in
    record {
      count = rw e tt;
      one_call = rw e tt;
      new = rw e tt;
    }

pub returns-in_err-client : goal.returns-in_err-client
returns-in_err-client g c =
    let e = (err_from_is_err_and c.from_residual-in_err-client.result c.from_residual-in_err-client.ensures.1).1 in
    record {
      count = rw e tt;
      one_call = rw e tt;
      new = rw e tt;
    }

pub returns-in_err-push : goal.returns-in_err-push
returns-in_err-push g c =
    let e = (err_from_is_err_and c.from_residual-in_err-push.result c.from_residual-in_err-push.ensures.1).1 in
    record {
      count = rw e tt;
      one_call = rw e tt;
      new = rw e tt;
    }
