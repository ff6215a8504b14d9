use Rattle.std.proofs.Common.{◌≡◌, ◌∙◌, ◌++◌, ℕ, List, [], ◌∷◌, sym, ap, subst, take, length, arith, refl}
use Rattle.std.specs.Io.KnownBytes.{Consumes}
use Rattle.std.proofs.lemmas.List.{append-nil, length-append, length-take}
use Rattle.desk_lines.proofs.Coming.{Consumes-then, Consumes-none}
use Rattle.desk_checking.proofs.input.read_whole.Goals as goal

take_front : (xs zs : List ℕ) → take (length xs) (xs ++ zs) ≡ xs
take_front [] zs = refl
take_front (x ∷ xs) zs = ap (λ ys. x ∷ ys) (take_front xs zs)

-- what was read lies at the front of the buffer, and fills it
filled : (n : ℕ) (xs zs : List ℕ) → length xs ≡ n → take n (xs ++ zs) ≡ xs
filled n xs zs e = ap (λ k. take k (xs ++ zs)) (sym e) ∙ take_front xs zs

pub loop-text-init : goal.loop-text-init
loop-text-init g c =
    let r = (g.R.Source.seen c.args.reader.now).remaining in
    record {
      room = c.in_ok-buffer.ensures.len;
      within = omega (arith, c.new-text.ensures.len);
      taken = subst (λ xs. Consumes r r xs) (sym c.new-text.ensures.items) (Consumes-none r);
      counts = refl;
    }

pub returns-then-n-eq0-clause-whole : goal.returns-then-n-eq0-clause-whole
returns-then-n-eq0-clause-whole g c =
    let old = (g.R.Source.seen c.args.reader.now).remaining in
    let new = (g.R.Source.seen c.read_piece.new.reader).remaining in
    let xs = c.loop-text.text.items in
    let buffer = c.read_piece.new.buffer in
    let none : c.in_ok-n.n ≡ 0 = omega (arith, c.if-n-eq0.true) in
    let whole : xs ++ take c.in_ok-n.n buffer ≡ xs = ap (λ n. xs ++ take n buffer) none ∙ append-nil xs in (
      subst (λ ys. Consumes old new ys) whole (Consumes-then _ _ _ _ _ c.loop-text.invariant.taken c.in_ok-n.ensures.bytes),
      c.in_ok-n.ensures.end none (omega (arith, c.in_ok-n.ensures.len, c.loop-text.invariant.room, c.deref_mut.ensures.len)),
    )

pub returns-then-n-len-clause-long : goal.returns-then-n-len-clause-long
returns-then-n-len-clause-long g c = λ _. record {
  input = c.loop-text.text.items ++ take c.in_ok-n.n c.read_piece.new.buffer;
  read = Consumes-then _ _ _ _ _ c.loop-text.invariant.taken c.in_ok-n.ensures.bytes;
  too_long = omega (arith, length-append c.loop-text.text.items (take c.in_ok-n.n c.read_piece.new.buffer), length-take {A = ℕ}, c.if-n-len.true, c.len.ensures, c.in_ok-n.ensures.bound, c.loop-text.invariant.within, c.loop-text.text.ok.0);
}

pub loop-text-preserved : goal.loop-text-preserved
loop-text-preserved g c =
    let old = (g.R.Source.seen c.args.reader.now).remaining in
    let new = (g.R.Source.seen c.read_piece.new.reader).remaining in
    let piece : List ℕ = take c.in_ok-n.n c.read_piece.new.buffer in
    let grown : c.add.new.text.items ≡ c.loop-text.text.items ++ piece =
    c.in_ok-add.ensures ∙ ap (λ (b : List ℕ). c.loop-text.text.items ++ take c.in_ok-n.n b) (c.deref.ensures.value ∙ filled c.loop-text.buffer.len c.read_piece.new.buffer _ (omega (arith, c.in_ok-n.ensures.len, c.deref_mut.ensures.len))) in
    record {
      room = c.loop-text.invariant.room;
      within = omega (arith, ap length grown, length-append c.loop-text.text.items piece, length-take {A = ℕ}, c.if-n-len.false, c.len.ensures, c.loop-text.invariant.within, c.in_ok-n.ensures.bound, c.add.new.text.ok.0, c.loop-text.text.ok.0);
      taken = subst (λ ys. Consumes old new ys) (sym grown) (Consumes-then _ _ _ _ _ c.loop-text.invariant.taken c.in_ok-n.ensures.bytes);
      counts = c.in_ok-n.ensures.counts ∙ c.loop-text.invariant.counts;
    }
