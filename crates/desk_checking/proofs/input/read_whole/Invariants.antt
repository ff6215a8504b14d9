use Rattle.std.proofs.Common.{◌≡◌, ◌-◌, ◌≤◌}
use Rattle.std.specs.Io.KnownBytes.{Consumes}
use Rattle.desk_checking.specs.Input.{most_bytes}
use Rattle.desk_checking.proofs.input.read_whole.Given as goal

abbrev pub invariant-loop-text : goal.invariant-loop-text
invariant-loop-text g l = record {
  room : l.buffer.len ≡ 65536;
  within : l.text.len ≤ most_bytes;
  taken : Consumes (g.R.Source.seen l.initial.reader).remaining (g.R.Source.seen l.reader).remaining l.text.items;
  counts : (g.R.Source.seen l.reader).faults ≡ (g.R.Source.seen l.initial.reader).faults;
}

abbrev pub decreases-loop-text : goal.decreases-loop-text
decreases-loop-text g l = most_bytes - l.text.len
