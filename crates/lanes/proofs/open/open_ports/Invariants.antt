use Rattle.std.proofs.Common.{◌≡◌, ℕ, ◌<◌, ◌≤◌, [], map, length, get_or, vec_len, vec_capacity}
use Rattle.crossbeam_deque.specs.Handles.{worker_deque, worker_port, worker_flavor, worker_view}
use Rattle.lanes.specs.Books.{book}
use Rattle.lanes.specs.Joined.{received_of}
use Rattle.lanes.specs.Identities.{add_each, links_of}
use Rattle.lanes.specs.Made.{AreIdle}
use Rattle.lanes.specs.Workers.{ports_of, worker_links}
use Rattle.lanes.proofs.open.open_ports.Given as goal

abbrev pub invariant-loop-index : goal.invariant-loop-index
invariant-loop-index g l = record {
  owner : (worker_port l.owner ≡ 0) × (worker_flavor l.owner ≡ 0) × (worker_view l.owner ≡ book 1 l.index [] []);
  links : map worker_links l.crew.items ≡ add_each (map worker_links l.fn.crew.items) (links_of (worker_deque l.owner) l.rings.items);
  rings : (vec_len l.rings ≡ l.index) × (received_of l.rings.items ≡ []) × (vec_capacity l.rings ≡ vec_len l.fn.crew);
  crew : vec_len l.crew ≡ vec_len l.fn.crew;
  few : (k : ℕ) (d : _) → k < vec_len l.crew → l.index ≤ k → length (ports_of (get_or l.crew.items k d)) < 64;
  idle : AreIdle l.fn.crew.items → AreIdle l.crew.items;
}
