use Rattle.std.proofs.Common.{◌<◌, ◌∙◌, sym, ap, subst, arith, length, [], ◌∷◌}
use Rattle.std.specs.Prelude.{string_bytes}
use Rattle.std.proofs.lemmas.List.{length-append}
use Rattle.dmn_analysis.proofs.witness.longer_text.Goals as goal

pub loop-place-init : goal.loop-place-init
loop-place-init c = subst (λ bs. 0 < length bs) (sym c.in_ok-text.ensures.ok) (omega arith)

pub loop-place-preserved : goal.loop-place-preserved
loop-place-preserved c = omega (arith, c.loop-place.invariant, ap length c.in_ok-push_str.ensures.bytes, length-append (string_bytes c.loop-place.text) (120 ∷ []))

pub returns : goal.returns
returns c = omega (arith, c.loop-place.invariant, c.loop-place-test.false, ap length (c.in_ok-text-2.ensures.ok ∙ c.as_str.ensures.value))
