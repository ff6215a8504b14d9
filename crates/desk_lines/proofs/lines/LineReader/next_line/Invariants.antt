use Rattle.std.proofs.Common.{◌≡◌, ◌≤◌, ℕ, List, ◌++◌}
use Rattle.desk_lines.specs.Lines.{kept_line, IsOneLine}
use Rattle.desk_lines.specs.LineReader.{to_come, waiting, StaysInStep}
use Rattle.desk_lines.proofs.Coming.{Partway}
use Rattle.desk_lines.proofs.lines.LineReader.next_line.Given as goal

abbrev pub invariant-pieces : goal.invariant-pieces
invariant-pieces g l = record {
  partway : (begun : List ℕ) → IsOneLine begun → l.initial.line ≡ kept_line begun
      → Partway (g.R.Source.seen l.initial.source).remaining (g.R.Source.seen l.source).remaining l.initial.self.came l.self.came (begun ++ waiting l.initial.self) (waiting l.self) l.line;
  counts : (g.R.Source.seen l.source).faults ≡ (g.R.Source.seen l.initial.source).faults;
  in_step : StaysInStep (g.R.Source.seen l.initial.source).came (g.R.Source.seen l.source).came l.initial.self.came l.self.came;
  less : to_come l.self ≤ to_come l.initial.self;
}

abbrev pub decreases-pieces : goal.decreases-pieces
decreases-pieces g l = to_come l.self
