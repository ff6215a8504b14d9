use Rattle.std.proofs.Common.{◌∙◌, ◌≤◌, sym, ap, subst, inl, inr, arith, length}
use Rattle.std.specs.Arc.{arc_str_bytes}
use Rattle.std.specs.List.{slice_get}
use Rattle.std.proofs.lemmas.Option.{same_Some, slice_get_within}
use Rattle.dmn_analysis.proofs.Places.{All-from_places, at_place, below_next}
use Rattle.dmn_analysis.proofs.witness.longest.Goals.{then-bytes-longest, else-bytes-longest}
use Rattle.dmn_analysis.proofs.witness.longest.Goals as goal

pub loop-text-preserved : goal.loop-text-preserved
loop-text-preserved c = λ k t less here.
    let texts = c.args.texts.now in
    let i = c.loop-text.text-index in
    let one = c.text-item.result in
    let old : c.loop-text.longest ≤ c.if-bytes-longest.longest = elim c.if-bytes-longest.branch [
      | then-bytes-longest w ↦ omega (arith, w.if-bytes-longest.true, w.longest-is)
      | else-bytes-longest w ↦ omega (arith, w.longest-is)
    ] in
    let new : length (arc_str_bytes one) ≤ c.if-bytes-longest.longest = elim c.if-bytes-longest.branch [
      | then-bytes-longest w ↦ omega (arith, w.longest-is, ap length c.as_str-bytes.ensures.value)
      | else-bytes-longest w ↦ omega (arith, w.if-bytes-longest.false, w.longest-is, ap length c.as_str-bytes.ensures.value)
    ] in
    elim (below_next k i less) [
      | inl before ↦ omega (arith, old, c.loop-text.invariant k t before here)
      | inr at ↦ subst (λ x. length (arc_str_bytes x) ≤ c.if-bytes-longest.longest) (same_Some one t (sym (at_place texts i one c.loop-text-test.true c.text-item.is) ∙ ap (slice_get texts) (sym at) ∙ here)) new
    ]

pub returns : goal.returns
returns c = All-from_places (λ t. length (arc_str_bytes t) ≤ c.loop-text.longest) c.args.texts.now
    (λ k t here. c.loop-text.invariant k t (omega (arith, slice_get_within c.args.texts.now k t here, c.loop-text-test.false)) here)
