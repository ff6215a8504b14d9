use Rattle.std.proofs.Common.{refl, ap, arith, subst, ◌∙◌, sym, length}
use Rattle.desk_lines.specs.LineReader.{IsInStep}
use Rattle.desk_lines.proofs.Coming.{partway_start, partway_more, partway_piece, partway_line, partway_last, partway_end, partway_open, partway_same, partway_seen, partway_lost, less_read}
use Rattle.std.proofs.lemmas.Result.{err_from_is_err_and}
use Rattle.desk_lines.proofs.lines.LineReader.next_line.Goals as goal

pub pieces-init : goal.pieces-init
pieces-init g c = record { partway = λ begun one keeps. partway_start _ _ begun _ _ one keeps; counts = refl; in_step = λ start h. h; less = omega arith }

pub returns-then-is_empty-clause-took : goal.returns-then-is_empty-clause-took
returns-then-is_empty-clause-took g c = λ begun one keeps.
    let r = c.in_ok-refill.ensures.reads in
    let end = c.in_ok-refill.ensures.end c.if-not-branch.true in
    partway_end (partway_more _ r.0 (c.pieces.invariant.partway begun one keeps) r.1 r.2) end.0 end.1 (sym c.is_empty.ensures ∙ c.if-is_empty.true)

pub returns-else-is_empty-clause-took : goal.returns-else-is_empty-clause-took
returns-else-is_empty-clause-took g c = λ begun one keeps.
    let r = c.in_ok-refill.ensures.reads in
    let end = c.in_ok-refill.ensures.end c.if-not-branch.true in
    partway_last (partway_more _ r.0 (c.pieces.invariant.partway begun one keeps) r.1 r.2) end.0 end.1 (sym c.is_empty.ensures ∙ c.if-is_empty.false)

pub returns-then-branch-clause-took : goal.returns-then-branch-clause-took
returns-then-branch-clause-took g c = λ begun one keeps.
    let r = c.in_ok-refill.ensures.reads in
    let t = c.in_ok-take_piece.ensures.ended c.if-branch.true in
    partway_line t.0 _ _ (partway_same (partway_more _ r.0 (c.pieces.invariant.partway begun one keeps) r.1 r.2) c.take_piece.ensures.came refl) t.1 t.2 t.3

pub returns-in_err-refill-clause-lost : goal.returns-in_err-refill-clause-lost
returns-in_err-refill-clause-lost g c =
    let lost = c.in_err-refill.ensures.lost in
    let p = err_from_is_err_and c.from_residual.result c.from_residual.ensures.1 in
    rw (p.1, p.2) (λ begun one keeps. partway_lost _ lost.0 (c.pieces.invariant.partway begun one keeps) lost.1 (λ _. (lost.2, lost.3)))

pub returns-in_err-take_piece-clause-lost : goal.returns-in_err-take_piece-clause-lost
returns-in_err-take_piece-clause-lost g c =
    let r = c.in_ok-refill.ensures.reads in
    let memory = c.in_err-take_piece.ensures.memory in
    let p = err_from_is_err_and c.from_residual-in_err-take_piece.result c.from_residual-in_err-take_piece.ensures.1 in
    rw (p.1, p.2) (λ begun one keeps.
    let mid = partway_same (partway_more _ r.0 (c.pieces.invariant.partway begun one keeps) r.1 r.2) c.take_piece.ensures.came refl in
    (mid.bytes, mid.comes, λ h. absurd (h memory)))

pub returns-in_err-refill-clause-in_step : goal.returns-in_err-refill-clause-in_step
returns-in_err-refill-clause-in_step g c = λ start h. c.refill.ensures.in_step start (c.pieces.invariant.in_step start h)

pub returns-then-matches-clause-took : goal.returns-then-matches-clause-took
returns-then-matches-clause-took g c = λ begun one keeps.
    let r = c.in_ok-refill.ensures.reads in
    let t = c.in_ok-take_piece.ensures.open c.if-branch.false in
    let mid = partway_piece _ _ (partway_more _ r.0 (c.pieces.invariant.partway begun one keeps) r.1 r.2) t.0 t.2 in
    partway_open _ (partway_seen (partway_same mid c.take_piece.ensures.came refl) (ap (λ s. s.remaining) c.at_hand.ensures)) t.1

pub pieces-preserved : goal.pieces-preserved
pieces-preserved g c =
    let r = c.in_ok-refill.ensures.reads in
    let t = c.in_ok-take_piece.ensures.open c.if-branch.false in
    let less = less_read _ _ _ _ _ _ _ r.1 r.2 c.refill.new.self.counted in
    record {
      partway = λ begun one keeps.
          let mid = partway_piece _ _ (partway_more _ r.0 (c.pieces.invariant.partway begun one keeps) r.1 r.2) t.0 t.2 in
          partway_seen (partway_same mid c.take_piece.ensures.came t.1) (ap (λ s. s.remaining) c.at_hand.ensures);
      counts = ap (λ s. s.faults) c.at_hand.ensures ∙ c.in_ok-refill.ensures.counts (λ e. cc) ∙ c.pieces.invariant.counts;
      in_step = λ start h.
          subst (λ s. IsInStep start s.came c.take_piece.new.self.came) (sym c.at_hand.ensures)
          (rw c.take_piece.ensures.came (c.refill.ensures.in_step start (c.pieces.invariant.in_step start h)));
      less = omega (arith, less, ap length t.1, c.take_piece.ensures.came, c.pieces.invariant.less);
    }
