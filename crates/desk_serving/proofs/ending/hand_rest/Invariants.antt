use Rattle.std.proofs.Common.{◌≡◌, length}
use Rattle.lanes.specs.Rest.{mail_in}
use Rattle.desk_serving.specs.Ending.{IsRun}
use Rattle.desk_serving.specs.Owed.{AreOwn, queue_in}
use Rattle.desk_serving.specs.Telling.{Tells}
use Rattle.desk_serving.proofs.ending.hand_rest.Given as goal

abbrev pub invariant-loop-reply : goal.invariant-loop-reply
invariant-loop-reply g l = record {
  run : IsRun l.end;
  counts : (g.W.Sink.seen l.writer).faults ≡ (g.W.Sink.seen l.initial.writer).faults;
  tells : Tells (AreOwn l.name (queue_in l.initial.end) (queue_in l.end)) (g.W.Sink.seen l.initial.writer).contents (g.W.Sink.seen l.writer).contents l.initial.unwritten l.unwritten;
}

abbrev pub decreases-loop-reply : goal.decreases-loop-reply
decreases-loop-reply g l = length (mail_in l.end).outstanding
