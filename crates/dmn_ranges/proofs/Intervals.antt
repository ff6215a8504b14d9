-- Arithmetic on intervals.
use Rattle.std.proofs.Common.{◌≡◌, refl, ap, ℕ, zero, suc, ◌*◌, ◌≤◌, ℤ, pos, negsuc, ◌+ℤ◌, ◌-ℤ◌, ◌≤ℤ◌, ◌<ℤ◌, Bool, true, false, ◌||◌, Option, None, Some, unsigned_abs, if◌then◌else◌, arith}
use Rattle.std.specs.Prelude.{◌*ℤ◌, int_lt, int_le}
use Rattle.std.proofs.Math.IntN.{*ℤ_comm}
use Rattle.std.proofs.Math.Nat.{mul-le-mul_right}
use Rattle.std.proofs.lemmas.Int.{ints}
use Rattle.std.proofs.lemmas.Bool.Decides.{nat_tests}
use Rattle.feel_value.proofs.Booleans.{both_true}
use Rattle.feel_value.specs.Limits.{in_range}
use Rattle.feel_eval.proofs.Modulo.{floor_above, floor_below}
use Rattle.feel_text.specs.Meaning.{least, greatest, is_zero, floor_quotient}
use Rattle.dmn_ranges.specs.Numbers.{least_number, most_number, clamped, is_past, bounded, sum, difference, least_times, greatest_times, least_product, greatest_product, product, nearest, furthest, absolute, remainder, has_divisor, hull, are_less, reach}
use Rattle.dmn_ranges.specs.Ranges.{inside, within}
use Rattle.dmn_ranges.specs.Steps.{everything}
use Rattle.dmn_ranges.specs.declared.bounded.Bounded.{Bounded}
use Rattle.dmn_ranges.specs.declared.interval.Interval.{Interval}
use Rattle.dmn_ranges.proofs.Joins.{or_left, or_right, and_both}

-- ---- the order of numbers

pub le_same : (a : ℤ) → int_le a a ≡ true
le_same a = grind (arith, ints)

pub le_trans : (a b c : ℤ) → int_le a b ≡ true → int_le b c ≡ true → int_le a c ≡ true
le_trans a b c h k = grind (arith, ints)

lt_le : (a b : ℤ) → int_lt a b ≡ true → int_le a b ≡ true
lt_le a b h = grind (arith, ints)

not_lt : (a b : ℤ) → int_lt a b ≡ false → int_le b a ≡ true
not_lt a b h = grind (arith, ints)

pub le_lt_le : (a b c d : ℤ) → int_le a b ≡ true → int_lt b c ≡ true → int_le c d ≡ true → int_lt a d ≡ true
le_lt_le a b c d h k l = grind (arith, ints)

pub add_le : (a b x y : ℤ) → int_le a x ≡ true → int_le b y ≡ true → int_le (a +ℤ b) (x +ℤ y) ≡ true
add_le a b x y h k = grind (arith, ints)

sub_le : (a b x y : ℤ) → int_le a x ≡ true → int_le y b ≡ true → int_le (a -ℤ b) (x -ℤ y) ≡ true
sub_le a b x y h k = grind (arith, ints)

least_one_by : (a b : ℤ) (t : Bool) → int_lt b a ≡ t → int_le (if t then b else a) a ≡ true
least_one_by a b true h = lt_le b a h
least_one_by a b false h = le_same a

pub least_one : (a b : ℤ) → int_le (least a b) a ≡ true
least_one a b = least_one_by a b (int_lt b a) refl

least_other_by : (a b : ℤ) (t : Bool) → int_lt b a ≡ t → int_le (if t then b else a) b ≡ true
least_other_by a b true h = le_same b
least_other_by a b false h = not_lt b a h

pub least_other : (a b : ℤ) → int_le (least a b) b ≡ true
least_other a b = least_other_by a b (int_lt b a) refl

greatest_one_by : (a b : ℤ) (t : Bool) → int_lt a b ≡ t → int_le a (if t then b else a) ≡ true
greatest_one_by a b true h = lt_le a b h
greatest_one_by a b false h = le_same a

pub greatest_one : (a b : ℤ) → int_le a (greatest a b) ≡ true
greatest_one a b = greatest_one_by a b (int_lt a b) refl

greatest_other_by : (a b : ℤ) (t : Bool) → int_lt a b ≡ t → int_le b (if t then b else a) ≡ true
greatest_other_by a b true h = le_same b
greatest_other_by a b false h = not_lt a b h

pub greatest_other : (a b : ℤ) → int_le b (greatest a b) ≡ true
greatest_other a b = greatest_other_by a b (int_lt a b) refl

-- ---- the range of numbers

least_below : (z : ℤ) → in_range z ≡ true → int_le least_number z ≡ true
least_below (pos n) h = refl
least_below (negsuc n) h = grind (arith, ints, nat_tests)

pub most_above : (z : ℤ) → in_range z ≡ true → int_le z most_number ≡ true
most_above (pos n) h = grind (arith, ints, nat_tests)
most_above (negsuc n) h = refl

pub zero_below : (n : ℕ) → int_le (pos 0) (pos n) ≡ true
zero_below n = grind (arith, ints)

pub number_in_all : (z : ℤ) → in_range z ≡ true → inside everything z ≡ true
number_in_all z h = and_both (int_le least_number z) (int_le z most_number) (least_below z h) (most_above z h)

below_range : (n : ℕ) → in_range (negsuc n) ≡ false → int_lt (negsuc n) least_number ≡ true
below_range n h = grind (arith, ints, nat_tests)

above_range : (n : ℕ) → in_range (pos n) ≡ false → int_lt most_number (pos n) ≡ true
above_range n h = grind (arith, ints, nat_tests)

-- what is told of a number holds of it
abbrev pub Met : Bounded → ℤ → Type 0
Met b z = (in_range z ≡ true → inside b.numbers z ≡ true) × (in_range z ≡ false → b.limit ≡ true)

low_by : (l z : ℤ) (s t : Bool) → int_lt most_number l ≡ t → int_le l z ≡ true → in_range z ≡ true → int_le (if s then least_number else (if t then most_number else l)) z ≡ true
low_by l z true t p h r = least_below z r
low_by l z false true p h r = le_trans most_number l z (lt_le most_number l p) h
low_by l z false false p h r = h

high_by : (u z : ℤ) (s t : Bool) → int_lt u least_number ≡ s → int_le z u ≡ true → in_range z ≡ true → int_le z (if s then least_number else (if t then most_number else u)) ≡ true
high_by u z true t p h r = le_trans z u least_number h (lt_le u least_number p)
high_by u z false true p h r = most_above z r
high_by u z false false p h r = h

past_by : (l u z : ℤ) → int_le l z ≡ true → int_le z u ≡ true → in_range z ≡ false → (is_past l || is_past u) ≡ true
past_by l u (pos n) h k r =
    or_right (is_past l) (is_past u) (or_right (int_lt u least_number) (int_lt most_number u) (le_lt_le most_number most_number (pos n) u (le_same most_number) (above_range n r) k))
past_by l u (negsuc n) h k r =
    or_left (is_past l) (is_past u) (or_left (int_lt l least_number) (int_lt most_number l) (le_lt_le l (negsuc n) least_number least_number h (below_range n r) (le_same least_number)))

pub bounded_met : (l u z : ℤ) → int_le l z ≡ true → int_le z u ≡ true → Met (bounded l u) z
bounded_met l u z h k = (
  λ r. and_both (int_le (clamped l) z) (int_le z (clamped u)) (low_by l z (int_lt l least_number) (int_lt most_number l) refl h r) (high_by u z (int_lt u least_number) (int_lt most_number u) refl k r),
  past_by l u z h k,
)

-- ---- sums and differences

pub low_of : (i : Interval) (x : ℤ) → inside i x ≡ true → int_le i.low x ≡ true
low_of i x h = (both_true (int_le i.low x) (int_le x i.high) h).0

pub high_of : (i : Interval) (x : ℤ) → inside i x ≡ true → int_le x i.high ≡ true
high_of i x h = (both_true (int_le i.low x) (int_le x i.high) h).1

pub sum_met : (i j : Interval) (x y : ℤ) → inside i x ≡ true → inside j y ≡ true → Met (sum i j) (x +ℤ y)
sum_met i j x y h k =
    bounded_met (i.low +ℤ j.low) (i.high +ℤ j.high) (x +ℤ y) (add_le i.low j.low x y (low_of i x h) (low_of j y k)) (add_le x y i.high j.high (high_of i x h) (high_of j y k))

pub difference_met : (i j : Interval) (x y : ℤ) → inside i x ≡ true → inside j y ≡ true → Met (difference i j) (x -ℤ y)
difference_met i j x y h k =
    bounded_met (i.low -ℤ j.high) (i.high -ℤ j.low) (x -ℤ y) (sub_le i.low j.high x y (low_of i x h) (high_of j y k)) (sub_le x y i.high j.low (high_of i x h) (low_of j y k))

-- ---- products

times_le : (a b n : ℕ) → a ≤ b → a * n ≤ b * n
times_le a b n h = mul-le-mul_right n h

mul_le : (u v : ℤ) (n : ℕ) → int_le u v ≡ true → int_le (u *ℤ pos n) (v *ℤ pos n) ≡ true
mul_le (pos a) (pos b) n h = let k : a * n ≤ b * n = times_le a b n (grind (arith, ints, nat_tests)) in grind (arith, ints)
mul_le (pos a) (negsuc b) n h = cc
mul_le (negsuc a) (pos b) n h = grind (arith, ints)
mul_le (negsuc a) (negsuc b) n h = let k : suc b * n ≤ suc a * n = times_le (suc b) (suc a) n (grind (arith, ints, nat_tests)) in grind (arith, ints)

mul_ge : (u v : ℤ) (n : ℕ) → int_le u v ≡ true → int_le (v *ℤ negsuc n) (u *ℤ negsuc n) ≡ true
mul_ge (pos a) (pos b) n h = let k : a * suc n ≤ b * suc n = times_le a b (suc n) (grind (arith, ints, nat_tests)) in grind (arith, ints)
mul_ge (pos a) (negsuc b) n h = cc
mul_ge (negsuc a) (pos b) n h = grind (arith, ints)
mul_ge (negsuc a) (negsuc b) n h = let k : suc b * suc n ≤ suc a * suc n = times_le (suc b) (suc a) (suc n) (grind (arith, ints, nat_tests)) in grind (arith, ints)

-- a product lies between those of the ends
ends_below : (l u x y : ℤ) → int_le l x ≡ true → int_le x u ≡ true → int_le (least (l *ℤ y) (u *ℤ y)) (x *ℤ y) ≡ true
ends_below l u x (pos n) h k = le_trans _ (l *ℤ pos n) _ (least_one (l *ℤ pos n) (u *ℤ pos n)) (mul_le l x n h)
ends_below l u x (negsuc n) h k = le_trans _ (u *ℤ negsuc n) _ (least_other (l *ℤ negsuc n) (u *ℤ negsuc n)) (mul_ge x u n k)

ends_above : (l u x y : ℤ) → int_le l x ≡ true → int_le x u ≡ true → int_le (x *ℤ y) (greatest (l *ℤ y) (u *ℤ y)) ≡ true
ends_above l u x (pos n) h k = le_trans _ (u *ℤ pos n) _ (mul_le x u n k) (greatest_other (l *ℤ pos n) (u *ℤ pos n))
ends_above l u x (negsuc n) h k = le_trans _ (l *ℤ negsuc n) _ (mul_ge l x n h) (greatest_one (l *ℤ negsuc n) (u *ℤ negsuc n))

least_of_times : (z l u y : ℤ) → int_le l y ≡ true → int_le y u ≡ true → int_le (least (z *ℤ l) (z *ℤ u)) (z *ℤ y) ≡ true
least_of_times z l u y h k = rw (*ℤ_comm z l, *ℤ_comm z u, *ℤ_comm z y) (ends_below l u y z h k)

greatest_of_times : (z l u y : ℤ) → int_le l y ≡ true → int_le y u ≡ true → int_le (z *ℤ y) (greatest (z *ℤ l) (z *ℤ u)) ≡ true
greatest_of_times z l u y h k = rw (*ℤ_comm z l, *ℤ_comm z u, *ℤ_comm z y) (ends_above l u y z h k)

least_both_by : (a b c d : ℤ) (t : Bool) → int_le a c ≡ true → int_le b d ≡ true → int_le (least a b) (if t then d else c) ≡ true
least_both_by a b c d true h k = le_trans (least a b) b d (least_other a b) k
least_both_by a b c d false h k = le_trans (least a b) a c (least_one a b) h

pub least_both : (a b c d : ℤ) → int_le a c ≡ true → int_le b d ≡ true → int_le (least a b) (least c d) ≡ true
least_both a b c d h k = least_both_by a b c d (int_lt d c) h k

greatest_both_by : (a b c d : ℤ) (t : Bool) → int_le a c ≡ true → int_le b d ≡ true → int_le (if t then b else a) (greatest c d) ≡ true
greatest_both_by a b c d true h k = le_trans b d (greatest c d) k (greatest_other c d)
greatest_both_by a b c d false h k = le_trans a c (greatest c d) h (greatest_one c d)

pub greatest_both : (a b c d : ℤ) → int_le a c ≡ true → int_le b d ≡ true → int_le (greatest a b) (greatest c d) ≡ true
greatest_both a b c d h k = greatest_both_by a b c d (int_lt a b) h k

pub product_met : (i j : Interval) (x y : ℤ) → inside i x ≡ true → inside j y ≡ true → Met (product i j) (x *ℤ y)
product_met i j x y h k =
    bounded_met (least_product i j) (greatest_product i j) (x *ℤ y)
    (le_trans (least_product i j) (least (i.low *ℤ y) (i.high *ℤ y)) (x *ℤ y)
    (least_both (least_times i.low j) (least_times i.high j) (i.low *ℤ y) (i.high *ℤ y) (least_of_times i.low j.low j.high y (low_of j y k) (high_of j y k)) (least_of_times i.high j.low j.high y (low_of j y k) (high_of j y k)))
    (ends_below i.low i.high x y (low_of i x h) (high_of i x h)))
    (le_trans (x *ℤ y) (greatest (i.low *ℤ y) (i.high *ℤ y)) (greatest_product i j)
    (ends_above i.low i.high x y (low_of i x h) (high_of i x h))
    (greatest_both (i.low *ℤ y) (i.high *ℤ y) (greatest_times i.low j) (greatest_times i.high j) (greatest_of_times i.low j.low j.high y (low_of j y k) (high_of j y k)) (greatest_of_times i.high j.low j.high y (low_of j y k) (high_of j y k))))

-- ---- how far a number is from 0

near_by : (l u x : ℤ) (s t : Bool) → int_le l x ≡ true → int_le x u ≡ true → int_le (if s then (pos 0 +ℤ l) else (if t then (pos 0 -ℤ u) else pos 0)) (pos (unsigned_abs x)) ≡ true
near_by l u (pos n) true t h k = grind (arith, ints)
near_by l u (negsuc n) true t h k = grind (arith, ints)
near_by l u (pos n) false true h k = grind (arith, ints)
near_by l u (negsuc n) false true h k = grind (arith, ints)
near_by l u (pos n) false false h k = grind (arith, ints)
near_by l u (negsuc n) false false h k = grind (arith, ints)

far_by : (l u x : ℤ) → int_le l x ≡ true → int_le x u ≡ true → int_le (pos (unsigned_abs x)) (greatest (pos 0 -ℤ l) (pos 0 +ℤ u)) ≡ true
far_by l u (pos n) h k =
    let here : int_le (pos n) (pos 0 +ℤ u) ≡ true = grind (arith, ints) in
    le_trans (pos n) (pos 0 +ℤ u) (greatest (pos 0 -ℤ l) (pos 0 +ℤ u)) here (greatest_other (pos 0 -ℤ l) (pos 0 +ℤ u))
far_by l u (negsuc n) h k =
    let here : int_le (pos (suc n)) (pos 0 -ℤ l) ≡ true = grind (arith, ints) in
    le_trans (pos (suc n)) (pos 0 -ℤ l) (greatest (pos 0 -ℤ l) (pos 0 +ℤ u)) here (greatest_one (pos 0 -ℤ l) (pos 0 +ℤ u))

pub absolute_met : (i : Interval) (x : ℤ) → inside i x ≡ true → Met (absolute i) (pos (unsigned_abs x))
absolute_met i x h =
    bounded_met (nearest i) (furthest i) (pos (unsigned_abs x))
    (near_by i.low i.high x (int_lt (pos 0) i.low) (int_lt i.high (pos 0)) (low_of i x h) (high_of i x h))
    (far_by i.low i.high x (low_of i x h) (high_of i x h))

-- ---- what is left by a number

left_above_low : (x p : ℤ) → p ≤ℤ x → int_le (pos 0) (x -ℤ p) ≡ true
left_above_low x p h = grind (arith, ints)

left_above_high : (x p y u : ℤ) → x <ℤ (p +ℤ y) → int_le y u ≡ true → int_le (x -ℤ p) (u -ℤ pos 1) ≡ true
left_above_high x p y u h k = grind (arith, ints)

left_below_high : (x p : ℤ) → x ≤ℤ p → int_le (x -ℤ p) (pos 0) ≡ true
left_below_high x p h = grind (arith, ints)

left_below_low : (x p y l : ℤ) → (p +ℤ y) <ℤ x → int_le l y ≡ true → int_le (l +ℤ pos 1) (x -ℤ p) ≡ true
left_below_low x p y l h k = grind (arith, ints)

pub zero_or_not : (y : ℤ) → is_zero y ≡ true → y ≡ pos 0
zero_or_not (pos n) h = let same : n ≡ 0 = grind (arith, nat_tests) in ap pos same
zero_or_not (negsuc n) h = absurd (grind (arith, nat_tests))

above_zero : (n : ℕ) → int_lt (pos 0) (pos (suc n)) ≡ true
above_zero n = grind (arith, ints, nat_tests)

lt_le_lt : (a b c : ℤ) → int_lt a b ≡ true → int_le b c ≡ true → int_lt a c ≡ true
lt_le_lt a b c h k = grind (arith, ints)

le_lt_lt : (a b c : ℤ) → int_le a b ≡ true → int_lt b c ≡ true → int_lt a c ≡ true
le_lt_lt a b c h k = grind (arith, ints)

pub divisor_in : (i : Interval) (y : ℤ) → inside i y ≡ true → is_zero y ≡ false → has_divisor i ≡ true
divisor_in i (pos zero) h k = cc
divisor_in i (pos (suc n)) h k = or_right (int_lt i.low (pos 0)) (int_lt (pos 0) i.high) (lt_le_lt (pos 0) (pos (suc n)) i.high (above_zero n) (high_of i (pos (suc n)) h))
divisor_in i (negsuc n) h k = or_left (int_lt i.low (pos 0)) (int_lt (pos 0) i.high) (le_lt_lt i.low (negsuc n) (pos 0) (low_of i (negsuc n) h) refl)

between_met : (i : Interval) (z : ℤ) → int_le (least (i.low +ℤ pos 1) (pos 0)) z ≡ true → int_le z (greatest (i.high -ℤ pos 1) (pos 0)) ≡ true → Met (remainder i) z
between_met i z h k = bounded_met (least (i.low +ℤ pos 1) (pos 0)) (greatest (i.high -ℤ pos 1) (pos 0)) z h k

pub remainder_met : (i : Interval) (x y : ℤ) → inside i y ≡ true → is_zero y ≡ false → Met (remainder i) (x -ℤ (y *ℤ floor_quotient x y))
remainder_met i x (pos zero) h k = cc
remainder_met i x (pos (suc b)) h k =
    let p : ℤ = pos (suc b) *ℤ floor_quotient x (pos (suc b)) in
    let low : int_le (pos 0) (x -ℤ p) ≡ true = left_above_low x p (floor_above x b).0 in
    let high : int_le (x -ℤ p) (i.high -ℤ pos 1) ≡ true = left_above_high x p (pos (suc b)) i.high (floor_above x b).1 (high_of i (pos (suc b)) h) in
    between_met i (x -ℤ p) (le_trans (least (i.low +ℤ pos 1) (pos 0)) (pos 0) (x -ℤ p) (least_other (i.low +ℤ pos 1) (pos 0)) low) (le_trans (x -ℤ p) (i.high -ℤ pos 1) (greatest (i.high -ℤ pos 1) (pos 0)) high (greatest_one (i.high -ℤ pos 1) (pos 0)))
remainder_met i x (negsuc b) h k =
    let p : ℤ = negsuc b *ℤ floor_quotient x (negsuc b) in
    let low : int_le (i.low +ℤ pos 1) (x -ℤ p) ≡ true = left_below_low x p (negsuc b) i.low (floor_below x b).1 (low_of i (negsuc b) h) in
    let high : int_le (x -ℤ p) (pos 0) ≡ true = left_below_high x p (floor_below x b).0 in
    between_met i (x -ℤ p) (le_trans (least (i.low +ℤ pos 1) (pos 0)) (i.low +ℤ pos 1) (x -ℤ p) (least_one (i.low +ℤ pos 1) (pos 0)) low) (le_trans (x -ℤ p) (pos 0) (greatest (i.high -ℤ pos 1) (pos 0)) high (greatest_other (i.high -ℤ pos 1) (pos 0)))

-- ---- two intervals

pub hull_one : (o p : Option Interval) (z : ℤ) → within o z ≡ true → within (hull o p) z ≡ true
hull_one None p z h = cc
hull_one (Some i) None z h = h
hull_one (Some i) (Some j) z h =
    and_both (int_le (least i.low j.low) z) (int_le z (greatest i.high j.high))
    (le_trans (least i.low j.low) i.low z (least_one i.low j.low) (low_of i z h))
    (le_trans z i.high (greatest i.high j.high) (high_of i z h) (greatest_one i.high j.high))

pub hull_other : (o p : Option Interval) (z : ℤ) → within p z ≡ true → within (hull o p) z ≡ true
hull_other None p z h = h
hull_other (Some i) None z h = cc
hull_other (Some i) (Some j) z h =
    and_both (int_le (least i.low j.low) z) (int_le z (greatest i.high j.high))
    (le_trans (least i.low j.low) j.low z (least_other i.low j.low) (low_of j z h))
    (le_trans z j.high (greatest i.high j.high) (high_of j z h) (greatest_other i.high j.high))

pub less_in : (o p : Option Interval) (x y : ℤ) → within o x ≡ true → within p y ≡ true → int_lt x y ≡ true → are_less o p ≡ true
less_in None p x y h k l = cc
less_in (Some i) None x y h k l = cc
less_in (Some i) (Some j) x y h k l = le_lt_le i.low x y j.high (low_of i x h) l (high_of j y k)

pub reach_in : (o p : Option Interval) (x y : ℤ) → within o x ≡ true → within p y ≡ true → int_lt x y ≡ false → reach o p ≡ true
reach_in None p x y h k l = cc
reach_in (Some i) None x y h k l = cc
reach_in (Some i) (Some j) x y h k l = le_trans j.low y i.high (low_of j y k) (le_trans y x i.high (not_lt x y l) (high_of i x h))
