use Rattle.std.proofs.Common.{◌≡◌, ℕ, List}
use Rattle.desk_lines.specs.LineReader.{to_come, waiting, IsInStep}
use Rattle.desk_lines.proofs.Talking.{Underway}
use Rattle.desk_lines.proofs.talk.answer_each.Given as goal

abbrev pub invariant-lines : goal.invariant-lines
invariant-lines g l = record {
  underway : Underway (g.C.Clerk.After l.clerk) (g.R.Source.seen l.initial.reader).remaining (g.R.Source.seen l.reader).remaining
      (g.W.Sink.seen l.initial.writer).contents (g.W.Sink.seen l.writer).contents l.lines.came l.line (waiting l.lines) l.unwritten l.number;
  reads : (g.R.Source.seen l.reader).faults ≡ (g.R.Source.seen l.initial.reader).faults;
  writes : (g.W.Sink.seen l.writer).faults ≡ (g.W.Sink.seen l.initial.writer).faults;
  in_step : IsInStep (g.R.Source.seen l.initial.reader).came (g.R.Source.seen l.reader).came l.lines.came;
  same : g.C.Clerk.kept l.clerk ≡ g.C.Clerk.kept l.initial.clerk;
  keeps : (lines said : List (List ℕ)) → g.C.Clerk.Script l.clerk lines said → g.C.Clerk.Script l.initial.clerk lines said;
}

abbrev pub decreases-lines : goal.decreases-lines
decreases-lines g l = to_come l.lines
