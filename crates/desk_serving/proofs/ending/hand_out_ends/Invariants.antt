use Rattle.std.proofs.Common.{◌≡◌, ◌<◌, ℕ, [], Some, drop, length, map, slice_get, string_bytes}
use Rattle.desk_serving.specs.Ending.{ends_lanes}
use Rattle.desk_serving.specs.Owed.{AreHanded, Queue}
use Rattle.desk_serving.specs.Telling.{Tells}
use Rattle.desk_serving.proofs.ending.hand_out_ends.Given as goal

abbrev pub invariant-loop-place : goal.invariant-loop-place
invariant-loop-place g l = record {
  count : length l.ends.items ≡ length l.initial.ends.items;
  rest : drop l.place l.ends.items ≡ drop l.place l.initial.ends.items;
  whole : (k : ℕ) (lane : Queue) → k < l.place → slice_get (ends_lanes l.ends.items) k ≡ Some lane → lane.owed ≡ [];
  counts : (g.W.Sink.seen l.writer).faults ≡ (g.W.Sink.seen l.initial.writer).faults;
  tells : Tells (AreHanded (map string_bytes l.names.items) (ends_lanes l.initial.ends.items) (ends_lanes l.ends.items)) (g.W.Sink.seen l.initial.writer).contents (g.W.Sink.seen l.writer).contents [] l.unwritten;
}
