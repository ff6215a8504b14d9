use Rattle.std.proofs.Common.{◌∙◌, sym, ap, subst, inl, inr, arith, pos, false, get_or}
use Rattle.std.specs.List.{slice_get}
use Rattle.std.proofs.lemmas.Option.{same_Some, slice_get-get_or, slice_get_within}
use Rattle.dmn_analysis.specs.Joining.{IsCellWithin}
use Rattle.dmn_analysis.specs.declared.cell.Cell.{Cell}
use Rattle.dmn_analysis.specs.declared.cell.Others.TheVariants as others
use Rattle.dmn_analysis.proofs.Places.{below_next, element}
use Rattle.dmn_analysis.proofs.within.cells_within.Goals as goal

pub loop-place-preserved : goal.loop-place-preserved
loop-place-preserved c = λ k x y less here there.
    let a = c.args.a.now in
    let b = c.args.b.now in
    let i = c.loop-place.place in
    let none : Cell = record { null = false; yes = false; no = false; low = pos 0; high = pos 0; from = 0; to = 0; others = others.None; parted = false } in
    elim (below_next k i less) [
      | inl before ↦ c.loop-place.invariant k x y before here there
      | inr at ↦
          let within_a = slice_get_within a k x here in
          let within_b = slice_get_within b k y there in
          let first = same_Some (get_or a i none) x (sym (slice_get-get_or a i none (omega (arith, at, within_a))) ∙ ap (slice_get a) (sym at) ∙ here) in
          let second = same_Some (get_or b i none) y (sym (slice_get-get_or b i none (omega (arith, at, within_b))) ∙ ap (slice_get b) (sym at) ∙ there) in
          subst (λ p. IsCellWithin p y) first (subst (IsCellWithin (get_or a i none)) second (c.cell_within.ensures c.if-not-cell_within.false))
    ]

pub returns : goal.returns
returns c = λ _ words values inside k ws y v of there has.
    let a = c.args.a.now in
    let x = element a k (omega (arith, slice_get_within c.args.b.now k y there, c.if-a-b.false)) in
    c.loop-place.invariant k x.0 y (omega (arith, slice_get_within c.args.b.now k y there, c.loop-place-test.false)) x.1 there ws.texts.items v (inside k ws x.0 v of x.1 has)
