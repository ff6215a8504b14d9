use Rattle.std.proofs.Common.{◌≡◌, ◌≢◌, ℕ, ◌<◌, ◌≤◌, [], map, get_or, vec_len, vec_capacity}
use Rattle.lanes.specs.Identities.{add_each}
use Rattle.lanes.specs.Workers.{ports_of}
use Rattle.lanes.proofs.settling.take_column.Given as goal

abbrev pub invariant-loop-index : goal.invariant-loop-index
invariant-loop-index g l = record {
  taken : map ports_of l.fn.workers.items ≡ add_each (map ports_of l.workers.items) l.column.items;
  column : (vec_len l.column ≡ l.index) × (vec_capacity l.column ≡ vec_capacity l.fn.column);
  workers : vec_len l.workers ≡ vec_len l.fn.workers;
  ports : (k : ℕ) (d : _) → k < vec_len l.workers → l.index ≤ k → ports_of (get_or l.workers.items k d) ≢ [];
}
