use Rattle.std.proofs.Common.{◌≡◌}
use Rattle.desk_serving.specs.LanesView.{NothingWaits, lanes_in, links_in, names_in}
use Rattle.desk_serving.specs.Owed.{AreHanded}
use Rattle.desk_serving.specs.Telling.{Tells}
use Rattle.desk_serving.proofs.ending.hand_out_beside.Given as goal

abbrev pub invariant-loop : goal.invariant-loop
invariant-loop g l = record {
  same : links_in l.lanes ≡ links_in l.initial.lanes;
  names : names_in l.lanes ≡ names_in l.initial.lanes;
  clear : NothingWaits l.lanes;
  counts : (g.W.Sink.seen l.writer).faults ≡ (g.W.Sink.seen l.initial.writer).faults;
  tells : Tells (AreHanded (names_in l.initial.lanes) (lanes_in l.initial.lanes) (lanes_in l.lanes)) (g.W.Sink.seen l.initial.writer).contents (g.W.Sink.seen l.writer).contents l.initial.unwritten l.unwritten;
}
