use Rattle.std.proofs.Common.{◌≡◌, ◌-◌, ◌≤◌, length, take}
use Rattle.std.specs.Io.KnownBytes.{Appends}
use Rattle.desk_lines.proofs.write.write_all.Given as goal

abbrev pub invariant-pieces : goal.invariant-pieces
invariant-pieces g l = record {
  within : l.at ≤ length l.bytes;
  written : Appends (g.W.Sink.seen l.initial.writer).contents (g.W.Sink.seen l.writer).contents (take l.at l.bytes);
  counts : (g.W.Sink.seen l.writer).faults ≡ (g.W.Sink.seen l.initial.writer).faults;
}

abbrev pub decreases-pieces : goal.decreases-pieces
decreases-pieces g l = length l.bytes - l.at
