use Rattle.std.proofs.Common.{◌≡◌, ◌∙◌, sym, ap, true, false, of_z, neg_ℤ, pos, arith}
use Rattle.std.specs.Prelude.{int_lt}
use Rattle.std.specs.Int.{w64, int_rem_euclid}
use Rattle.std.proofs.lemmas.Int.{to_z-of_z}
use Rattle.feel_value.specs.Datum.{number}
use Rattle.feel_value.specs.Outcome.{held}
use Rattle.feel_eval.proofs.Modulo.{modulo_above, modulo_below, is_not_zero}
use Rattle.feel_eval.proofs.eval_operators.remainder.Goals as goal

pub returns-then-y-lt0 : goal.returns-then-y-lt0
returns-then-y-lt0 c =
    let x = c.args.x in
    let y = c.args.y in
    let below : int_lt y (pos 0) ≡ true = grind (arith, to_z-of_z) in
    let rest : c.rem_euclid.result ≡ int_rem_euclid (neg_ℤ x) (neg_ℤ y) = grind (arith, to_z-of_z) in
    let formed : c.whole.result ≡ held (number (neg_ℤ c.rem_euclid.result)) = grind (arith, to_z-of_z) in
    formed ∙ ap (λ r. held (number (neg_ℤ r))) rest ∙ ap held (sym (modulo_below x y (is_not_zero y (λ e. c.if-y-eq0.false (ap (of_z w64) e))) below))

pub returns-else-y-lt0 : goal.returns-else-y-lt0
returns-else-y-lt0 c =
    let x = c.args.x in
    let y = c.args.y in
    let above : int_lt y (pos 0) ≡ false = grind (arith, to_z-of_z) in
    let formed : c.whole-else-y-lt0.result ≡ held (number (int_rem_euclid x y)) = grind (arith, to_z-of_z) in
    formed ∙ ap held (sym (modulo_above x y (is_not_zero y (λ e. c.if-y-eq0.false (ap (of_z w64) e))) above))
