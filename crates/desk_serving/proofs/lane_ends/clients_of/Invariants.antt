use Rattle.std.proofs.Common.{◌≡◌, ◌+◌, ◌++◌, ◌≤◌, map, vec_len}
use Rattle.std.specs.Prelude.{vec_capacity}
use Rattle.std.specs.Vec.Iter.{into_iter_items, into_iter_len}
use Rattle.desk_serving.specs.LanesView.{client_held}
use Rattle.desk_serving.proofs.lane_ends.clients_of.Given as goal

abbrev pub invariant-loop-lane : goal.invariant-loop-lane
invariant-loop-lane g l = record {
  room : vec_len l.clients + into_iter_len l.lane-iterator ≤ vec_capacity l.clients;
  ends : l.clients.items ++ map client_held (into_iter_items l.lane-iterator) ≡ map client_held l.fn.lanes.items;
}
