use Rattle.std.proofs.Common.{◌≡◌, ℕ, ◌∙◌, arith, refl}
use Rattle.std.proofs.lemmas.List.{length-drop, length-take}
use Rattle.desk_lines.proofs.Coming.{Appends-then, Appends-kept, take-piece, counted-some}
use Rattle.desk_lines.proofs.Telling.{counted-failed, counted-none, cut_at}
use Rattle.desk_lines.proofs.write.write_all.Goals as goal

pub pieces-preserved : goal.pieces-preserved
pieces-preserved g c =
    let at : ℕ = c.pieces.at in
    let more = Appends-then (g.W.Sink.seen c.args.writer.now).contents (g.W.Sink.seen c.pieces.writer).contents (g.W.Sink.seen c.write.new.self).contents _ _
    c.pieces.invariant.written c.in-Ok.ensures.bytes in
    record {
      within = omega (arith, c.in-Ok.ensures.bound, length-take {A = ℕ}, length-drop {A = ℕ});
      written = rw take-piece at more;
      counts = c.in-Ok.ensures.faults ∙ counted-some _ _ _ c.if-n-gt0.true ∙ c.pieces.invariant.counts;
    }

-- nothing was taken of some bytes
pub returns-in_default : goal.returns-in_default
returns-in_default g c =
    let none : c.in-Ok.n ≡ 0 = omega (arith, c.if-n-gt0.false) in (
      refl,
      counted-none _ _ _ _ _ c.in-Ok.ensures.faults c.pieces.invariant.counts none (omega (arith, length-drop {A = ℕ})) c.requires.counts,
      cut_at (g.W.Sink.seen c.args.writer.now) (g.W.Sink.seen c.pieces.writer) (g.W.Sink.seen c.write.new.self) c.args.bytes.now c.pieces.at c.pieces.invariant.written (rw none at c.in-Ok.ensures.bytes),
    )

-- the write failed
pub returns-in_default-2 : goal.returns-in_default-2
returns-in_default-2 g c = (
  refl,
  counted-failed _ _ _ c.in_default.ensures.faults c.pieces.invariant.counts c.requires.counts,
  cut_at (g.W.Sink.seen c.args.writer.now) (g.W.Sink.seen c.pieces.writer) (g.W.Sink.seen c.write.new.self) c.args.bytes.now c.pieces.at c.pieces.invariant.written (Appends-kept _ _ c.in_default.ensures.bytes),
)
