use Rattle.std.proofs.Common.{◌≡◌, length}
use Rattle.desk_checking.specs.Answering.{AreNarrowed}
use Rattle.desk_checking.proofs.narrowed.each_narrower.Given as goal

abbrev pub invariant-loop-place : goal.invariant-loop-place
invariant-loop-place l = record {
  count : length l.all.items ≡ l.place;
  narrowed : AreNarrowed l.comes l.kinds l.all.items;
}
