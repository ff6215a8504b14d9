use Rattle.std.proofs.Common.{◌≡◌, map, vec_len}
use Rattle.lanes.specs.Clients.{client_links}
use Rattle.lanes.specs.Links.{AreOfOneCall}
use Rattle.lanes.specs.Made.{AreNew, AreIdle}
use Rattle.lanes.specs.Workers.{worker_links}
use Rattle.lanes.proofs.open.open_all.Given as goal

abbrev pub invariant-loop-lane : goal.invariant-loop-lane
invariant-loop-lane g l = record {
  count : (vec_len l.ends ≡ l.lane) × (vec_len l.crew ≡ l.fn.workers);
  one_call : AreOfOneCall (map client_links l.ends.items) (map worker_links l.crew.items);
  new : AreNew l.fn.capacity l.ends.items × AreIdle l.crew.items;
}
