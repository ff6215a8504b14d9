use Rattle.std.proofs.Common.{◌∙◌, ◌+◌, ◌-◌, sym, ap, ap₂, inl, inr, arith}
use Rattle.std.specs.Arc.{arc_str_bytes}
use Rattle.std.specs.List.{slice_get}
use Rattle.std.proofs.lemmas.Option.{same_Some, slice_get_within}
use Rattle.dmn_analysis.specs.Cells.{is_less}
use Rattle.dmn_analysis.proofs.Places.{at_place, below_next}
use Rattle.dmn_analysis.proofs.words.are_in_order.Goals as goal

pub loop-i-preserved : goal.loop-i-preserved
loop-i-preserved c = λ k a b less here there.
    let texts = c.args.texts.now in
    let i = c.loop-i.i in
    let one = c.index-texts-i.result in
    let two = c.index-texts-i-in-loop-i.result in
    elim (below_next (k + 1) i less) [
      | inl before ↦ c.loop-i.invariant k a b before here there
      | inr at ↦
          let first = same_Some a one (sym here ∙ ap (slice_get texts) (omega (arith, at)) ∙ at_place texts (i - 1) one (omega (arith, c.loop-i-test.true)) c.index-texts-i.is) in
          let second = same_Some b two (sym there ∙ ap (slice_get texts) at ∙ at_place texts i two c.loop-i-test.true c.index-texts-i-in-loop-i.is) in
          ap₂ is_less (ap arc_str_bytes first ∙ sym c.as_str.ensures.value) (ap arc_str_bytes second ∙ sym c.as_str-in-loop-i.ensures.value) ∙ sym c.is_less.ensures ∙ c.if-not-is_less.false
    ]

pub returns : goal.returns
returns c = λ _ k a b here there. c.loop-i.invariant k a b (omega (arith, slice_get_within c.args.texts.now (k + 1) b there, c.loop-i-test.false)) here there
