-- What is left of a number by another.
use Rattle.std.proofs.Common.{◌≡◌, ◌∙◌, sym, ap, refl, subst, ℕ, zero, suc, ◌+◌, ◌*◌, true, false, ℤ, pos, negsuc, neg_ℤ, ◌+ℤ◌, ◌-ℤ◌, ◌≤ℤ◌, ◌<ℤ◌, arith}
use Rattle.std.specs.Prelude.{◌*ℤ◌, int_lt, ◌/◌, ◌%◌, if◌then◌else◌}
use Rattle.std.specs.Int.{int_div_euclid, int_rem_euclid}
use Rattle.std.proofs.Math.IntN.{*ℤ_comm, *ℤ-negsuc}
use Rattle.std.proofs.lemmas.Int.{ints}
use Rattle.std.proofs.lemmas.Bool.Decides.{nat_tests}
use Rattle.feel_value.specs.Datum.{null, number}
use Rattle.feel_text.specs.Meaning.{is_zero, floor_quotient, modulo}

-- what a whole quotient by a positive number leaves
rest_of : (x : ℤ) (b : ℕ) → x -ℤ (pos (suc b) *ℤ int_div_euclid x (pos (suc b))) ≡ int_rem_euclid x (pos (suc b))
rest_of (pos a) b =
    let parts : suc b * (a / suc b) + a % suc b ≡ a = omega arith in
    omega (arith, ints)
rest_of (negsuc a) b =
    let parts : suc b * (a / suc b) + a % suc b ≡ a = omega arith in
    omega (arith, ints)

pub is_not_zero : (y : ℤ) → (y ≡ pos 0 → ⊥) → is_zero y ≡ false
is_not_zero (pos zero) h = absurd (h refl)
is_not_zero (pos (suc n)) h = grind (arith, nat_tests)
is_not_zero (negsuc n) h = grind (arith, nat_tests)

rest_above : (x y : ℤ) → is_zero y ≡ false → int_lt y (pos 0) ≡ false → x -ℤ (y *ℤ int_div_euclid x y) ≡ int_rem_euclid x y
rest_above x (pos zero) nonzero above = cc
rest_above x (pos (suc b)) nonzero above = rest_of x b
rest_above x (negsuc b) nonzero above = cc

turned : (b : ℕ) (q : ℤ) → negsuc b *ℤ q ≡ neg_ℤ (pos (suc b) *ℤ q)
turned b q = *ℤ_comm (negsuc b) q ∙ *ℤ-negsuc q b ∙ ap neg_ℤ (*ℤ_comm q (pos (suc b)))

rest_below : (x y : ℤ) → int_lt y (pos 0) ≡ true → x -ℤ (y *ℤ int_div_euclid (neg_ℤ x) (neg_ℤ y)) ≡ neg_ℤ (int_rem_euclid (neg_ℤ x) (neg_ℤ y))
rest_below x (pos b) below = absurd (omega (arith, ints))
rest_below x (negsuc b) below = let rest = rest_of (neg_ℤ x) b in let other = turned b (int_div_euclid (neg_ℤ x) (pos (suc b))) in omega (arith, ints)

-- by a positive number
pub modulo_above : (x y : ℤ) → is_zero y ≡ false → int_lt y (pos 0) ≡ false → modulo x y ≡ number (int_rem_euclid x y)
modulo_above x y nonzero above =
    ap (λ t. if t then null else number (x -ℤ (y *ℤ floor_quotient x y))) nonzero
    ∙ ap (λ t. number (x -ℤ (y *ℤ (if t then int_div_euclid (neg_ℤ x) (neg_ℤ y) else int_div_euclid x y)))) above
    ∙ ap number (rest_above x y nonzero above)

-- by a negative number
pub modulo_below : (x y : ℤ) → is_zero y ≡ false → int_lt y (pos 0) ≡ true → modulo x y ≡ number (neg_ℤ (int_rem_euclid (neg_ℤ x) (neg_ℤ y)))
modulo_below x y nonzero below =
    ap (λ t. if t then null else number (x -ℤ (y *ℤ floor_quotient x y))) nonzero
    ∙ ap (λ t. number (x -ℤ (y *ℤ (if t then int_div_euclid (neg_ℤ x) (neg_ℤ y) else int_div_euclid x y)))) below
    ∙ ap number (rest_below x y below)

-- what is left lies from 0 to less than the divisor
rest_low : (x : ℤ) (b : ℕ) → pos 0 ≤ℤ int_rem_euclid x (pos (suc b))
rest_low (pos a) b = omega (arith, ints)
rest_low (negsuc a) b = omega (arith, ints)

rest_high : (x : ℤ) (b : ℕ) → int_rem_euclid x (pos (suc b)) <ℤ pos (suc b)
rest_high (pos a) b = omega (arith, ints)
rest_high (negsuc a) b = omega (arith, ints)

not_below : (b : ℕ) → int_lt (pos (suc b)) (pos 0) ≡ false
not_below b = grind (arith, nat_tests)

-- The quotient is the greatest whole number that is at most x / y, where y is above 0 ..
pub floor_above : (x : ℤ) (b : ℕ) → let y = pos (suc b) in ((y *ℤ floor_quotient x y) ≤ℤ x) × (x <ℤ ((y *ℤ floor_quotient x y) +ℤ y))
floor_above x b =
    let rest = rest_of x b in
    let low = rest_low x b in
    let high = rest_high x b in
    let P : ℤ → Type 0 = λ q. ((pos (suc b) *ℤ q) ≤ℤ x) × (x <ℤ ((pos (suc b) *ℤ q) +ℤ pos (suc b))) in
    let same : floor_quotient x (pos (suc b)) ≡ int_div_euclid x (pos (suc b)) = ap (λ t. if t then int_div_euclid (neg_ℤ x) (negsuc b) else int_div_euclid x (pos (suc b))) (not_below b) in
    subst P (sym same) (omega (arith, ints), omega (arith, ints))

-- .. and where it is below 0
pub floor_below : (x : ℤ) (b : ℕ) → let y = negsuc b in (x ≤ℤ (y *ℤ floor_quotient x y)) × (((y *ℤ floor_quotient x y) +ℤ y) <ℤ x)
floor_below x b =
    let rest = rest_of (neg_ℤ x) b in
    let low = rest_low (neg_ℤ x) b in
    let high = rest_high (neg_ℤ x) b in
    let other = turned b (int_div_euclid (neg_ℤ x) (pos (suc b))) in
    (omega (arith, ints), omega (arith, ints))
