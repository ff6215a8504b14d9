use Rattle.std.proofs.Common.{◌≡◌, ◌+◌, ◌++◌, ◌≤◌, map, vec_len}
use Rattle.std.specs.Prelude.{vec_capacity}
use Rattle.std.specs.Vec.Iter.{into_iter_items, into_iter_len}
use Rattle.lanes.specs.Clients.{client_links}
use Rattle.desk_serving.specs.LanesView.{lane_held, links_held}
use Rattle.desk_serving.specs.Owed.{queue_of}
use Rattle.desk_serving.proofs.lane_ends.lanes_of.Given as goal

abbrev pub invariant-loop-client : goal.invariant-loop-client
invariant-loop-client g l = record {
  room : vec_len l.lanes + into_iter_len l.client-iterator ≤ vec_capacity l.lanes;
  lanes : map lane_held l.lanes.items ++ map queue_of (into_iter_items l.client-iterator) ≡ map queue_of l.fn.clients.items;
  links : map links_held l.lanes.items ++ map client_links (into_iter_items l.client-iterator) ≡ map client_links l.fn.clients.items;
}
