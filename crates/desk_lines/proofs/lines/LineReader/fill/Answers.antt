use Rattle.std.proofs.Common.{◌≡◌, ◌+◌, ◌-◌, ◌≤◌, [], length, take, sym, ◌∙◌, ap, vec_len, arith, length-take-le}
use Rattle.std.proofs.lemmas.List.{with_items_is}
use Rattle.std.specs.List.{slice_range}
use Rattle.std.specs.Vec.{with_items}
use Rattle.desk_lines.specs.Lines.{max_input, heard}
use Rattle.desk_lines.proofs.Coming.{filled, in_step-grown}
use Rattle.desk_lines.proofs.lines.LineReader.fill.Goals as goal

pub returns-clause-reads : goal.returns-clause-reads
returns-clause-reads g c =
    let self = c.args.self.now in let n = c.in_ok-n.n in let bytes = c.read_piece.new.buffer in
    let full : length bytes ≡ vec_len self.buffer = omega (arith, c.read_piece.auto.buffer, c.deref_mut.ensures.len) in
    let within : n ≤ length bytes = omega (arith, full, self.room, c.in_ok-n.ensures.bound, c.piece_of.ensures) in
    let most : n ≤ max_input + 1 - self.came = omega (arith, c.in_ok-n.ensures.bound, c.piece_of.ensures) in
    let same : (with_items self.buffer bytes).items ≡ bytes = with_items_is self.buffer bytes full in (
      take n bytes,
      record { taken = c.in_ok-n.ensures.bytes; count = ap (λ k. self.came + k) (sym (length-take-le n bytes within)) },
      ap (λ l. slice_range l 0 c.kept_of-kept.result) same ∙ filled bytes self.came n c.kept_of-kept.result (omega (arith, c.if-self-gt-MAX_INPUT.false)) most c.kept_of-kept.ensures,
      tt,
    )

pub returns-clause-in_step : goal.returns-clause-in_step
returns-clause-in_step g c = λ start h. in_step-grown start _ _ _ c.in_ok-n.n c.in_ok-n.ensures.comes h

pub returns-then-self-gt-MAX_INPUT-2-clause-reads : goal.returns-then-self-gt-MAX_INPUT-2-clause-reads
returns-then-self-gt-MAX_INPUT-2-clause-reads g c =
    let self = c.args.self.now in let n = c.in_ok-n.n in let bytes = c.read_piece.new.buffer in
    let full : length bytes ≡ vec_len self.buffer = omega (arith, c.read_piece.auto.buffer, c.deref_mut.ensures.len) in
    let within : n ≤ length bytes = omega (arith, full, self.room, c.in_ok-n.ensures.bound, c.piece_of.ensures) in
    let most : n ≤ max_input + 1 - self.came = omega (arith, c.in_ok-n.ensures.bound, c.piece_of.ensures) in
    let none : heard self.came (take n bytes) ≡ [] = sym (filled bytes self.came n 0 (omega (arith, c.if-self-gt-MAX_INPUT.false)) most (sym c.if-kept-eq0.true ∙ c.kept_of-kept.ensures)) in
    (take n bytes, record { taken = c.in_ok-n.ensures.bytes; count = ap (λ k. self.came + k) (sym (length-take-le n bytes within)) }, tt, none)

pub returns-then-self-gt-MAX_INPUT-2-clause-in_step : goal.returns-then-self-gt-MAX_INPUT-2-clause-in_step
returns-then-self-gt-MAX_INPUT-2-clause-in_step g c = λ start h. in_step-grown start _ _ _ c.in_ok-n.n c.in_ok-n.ensures.comes h
