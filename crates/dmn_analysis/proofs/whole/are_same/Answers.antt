use Rattle.std.proofs.Common.{◌∙◌, sym, ap, inl, inr, arith}
use Rattle.std.specs.Arc.{arc_str_bytes}
use Rattle.std.specs.List.{slice_get}
use Rattle.std.proofs.lemmas.Option.{same_Some, slice_get_within}
use Rattle.dmn_analysis.proofs.Places.{at_place, below_next}
use Rattle.dmn_analysis.proofs.Wholes.{same_at, same_lengths, same_texts}
use Rattle.dmn_analysis.proofs.whole.are_same.Goals as goal

pub loop-i-preserved : goal.loop-i-preserved
loop-i-preserved c = λ k x y less here there.
    let a = c.args.a.now in
    let b = c.args.b.now in
    let i = c.loop-i.i in
    elim (below_next k i less) [
      | inl before ↦ c.loop-i.invariant k x y before here there
      | inr at ↦
          let first = same_Some x c.index-a-i.result (sym here ∙ ap (slice_get a) at ∙ at_place a i c.index-a-i.result c.loop-i-test.true c.index-a-i.is) in
          let second = same_Some y c.index-b-i.result (sym there ∙ ap (slice_get b) at ∙ at_place b i c.index-b-i.result (omega (arith, c.loop-i-test.true, c.if-a-b.false)) c.index-b-i.is) in
          ap arc_str_bytes first ∙ c.is_same.ensures.same c.if-not-is_same.false ∙ ap arc_str_bytes (sym second)
    ]

pub returns-clause-same : goal.returns-clause-same
returns-clause-same c = λ _. same_texts c.args.a.now c.args.b.now c.if-a-b.false (λ k x y here there. c.loop-i.invariant k x y (omega (arith, slice_get_within c.args.a.now k x here, c.loop-i-test.false)) here there)

pub returns-then-a-b-clause-all : goal.returns-then-a-b-clause-all
returns-then-a-b-clause-all c = λ same. absurd (c.if-a-b.true (same_lengths c.args.a.now c.args.b.now same))

pub returns-then-not-is_same-clause-all : goal.returns-then-not-is_same-clause-all
returns-then-not-is_same-clause-all c = λ same.
    let a = c.args.a.now in
    let b = c.args.b.now in
    let i = c.loop-i.i in
    let first = at_place a i c.index-a-i.result c.loop-i-test.true c.index-a-i.is in
    let second = at_place b i c.index-b-i.result (omega (arith, c.loop-i-test.true, c.if-a-b.false)) c.index-b-i.is in
    let told = c.is_same.ensures.all (same_at a b i c.index-a-i.result c.index-b-i.result same first second) in cc
