use Rattle.std.proofs.Common.{arith}
use Rattle.desk_lines.proofs.Splitting.{piece_ended, piece_open, slice_range-none}
use Rattle.desk_lines.proofs.lines.LineReader.take_piece.Goals as goal

pub returns-in_ok-add-in-Some-clause-ended : goal.returns-in_ok-add-in-Some-clause-ended
returns-in_ok-add-in-Some-clause-ended c =
    λ _. piece_ended c.args.self.now.buffer.items c.deref.result.now c.args.self.now.at c.args.self.now.end c.in-Some.place c.args.line.now c.add.new.self
    c.deref.ensures.value c.in-Some.ensures c.in_ok-add-in-Some.ensures.added

pub returns-in_ok-add-in-None-clause-open : goal.returns-in_ok-add-in-None-clause-open
returns-in_ok-add-in-None-clause-open c =
    λ _.
    let h = piece_open c.args.self.now.buffer.items c.deref.result.now c.args.self.now.at c.args.self.now.end c.args.line.now c.add-in-None.new.self
    c.deref.ensures.value c.in-None.ensures c.in_ok-add-in-None.ensures.added in
    (h.0, slice_range-none c.args.self.now.buffer.items c.args.self.now.end c.args.self.now.end (omega arith), h.1)
