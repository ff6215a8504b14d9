-- What functions make of the numbers of written lists.
use Rattle.std.proofs.Common.{◌≡◌, ℕ, ◌+◌, ◌≤◌, ℤ, ◌+ℤ◌, Bool, true, false, ◌&&◌, Option, None, Some, if◌then◌else◌, arith}
use Rattle.std.specs.Prelude.{int_le, int_lt}
use Rattle.std.proofs.lemmas.Int.{ints}
use Rattle.feel_value.proofs.Booleans.{both_true}
use Rattle.feel_text.specs.Meaning.{least, greatest}
use Rattle.feel_text.specs.declared.expr.Function.{Function}
use Rattle.feel_text.specs.declared.expr.Function.TheVariants as function
use Rattle.dmn_ranges.specs.Numbers.{AreNear, IsNear, bounded, folded_if, folded_span, widened_if}
use Rattle.dmn_ranges.specs.Ranges.{within}
use Rattle.dmn_ranges.specs.declared.interval.Interval.{Interval}
use Rattle.dmn_ranges.specs.declared.span.Span.{Span}
use Rattle.dmn_ranges.proofs.Intervals.{Met, add_le, bounded_met, greatest_both, least_both}
use Rattle.dmn_ranges.proofs.Joins.{and_both}

-- ---- how far from 0

near_wider : (m n : ℕ) (z : ℤ) → m ≤ n → IsNear m z → IsNear n z
near_wider m n z h k = (omega (arith, ints, h, k.0), omega (arith, ints, h, k.1))

near_next : (n : ℕ) (z : ℤ) → IsNear n z → IsNear (n + 1) z
near_next n z k = (omega (arith, ints, k.0), omega (arith, ints, k.1))

near_one : (n : ℕ) (z : ℤ) → IsNear 1 z → IsNear (n + 1) z
near_one n z k = (omega (arith, ints, k.0), omega (arith, ints, k.1))

near_added : (n : ℕ) (x y : ℤ) → IsNear n x → IsNear 1 y → IsNear (n + 1) (x +ℤ y)
near_added n x y h k = (omega (arith, ints, h.0, k.0), omega (arith, ints, h.1, k.1))

near_chosen : (n : ℕ) (t : Bool) (x y : ℤ) → IsNear n x → IsNear 1 y → IsNear (n + 1) (if t then y else x)
near_chosen n true x y h k = near_one n y k
near_chosen n false x y h k = near_next n x h

pub near_folded : (f : Function) (n : ℕ) (s t : Span) → AreNear n (Some s) → AreNear 1 (Some t) → AreNear (n + 1) (Some (folded_span f s t))
near_folded function.Min n s t h k = (near_chosen n (int_lt t.low s.low) s.low t.low h.0 k.0, near_chosen n (int_lt t.high s.high) s.high t.high h.1 k.1)
near_folded function.Max n s t h k = (near_chosen n (int_lt s.low t.low) s.low t.low h.0 k.0, near_chosen n (int_lt s.high t.high) s.high t.high h.1 k.1)
near_folded function.Sum n s t h k = (near_added n s.low t.low h.0 k.0, near_added n s.high t.high h.1 k.1)
near_folded function.Abs n s t h k = (near_added n s.low t.low h.0 k.0, near_added n s.high t.high h.1 k.1)
near_folded function.Count n s t h k = (near_added n s.low t.low h.0 k.0, near_added n s.high t.high h.1 k.1)

pub wider_apart : (m n : ℕ) (s : Option Span) → m ≤ n → AreNear m s → AreNear n s
wider_apart m n None h k = tt
wider_apart m n (Some s) h k = (near_wider m n s.low h k.0, near_wider m n s.high h k.1)

-- ---- which numbers

abbrev pub spans : Span → ℤ → Bool
spans s z = int_le s.low z && int_le z s.high

abbrev pub within_span : Option Span → ℤ → Bool
within_span None z = false
within_span (Some s) z = spans s z

-- what a function makes of two numbers
abbrev pub made : Function → ℤ → ℤ → ℤ
made function.Min x y = least x y
made function.Max x y = greatest x y
made f x y = x +ℤ y

pub widened_has : (i : Option Interval) (y : ℤ) → within i y ≡ true → within_span (widened_if i) y ≡ true
widened_has None y h = cc
widened_has (Some i) y h = h

sum_spans : (s t : Span) (x y : ℤ) → spans s x ≡ true → spans t y ≡ true → (int_le (s.low +ℤ t.low) (x +ℤ y) && int_le (x +ℤ y) (s.high +ℤ t.high)) ≡ true
sum_spans s t x y h k =
    let p = both_true (int_le s.low x) (int_le x s.high) h in
    let q = both_true (int_le t.low y) (int_le y t.high) k in
    and_both (int_le (s.low +ℤ t.low) (x +ℤ y)) (int_le (x +ℤ y) (s.high +ℤ t.high)) (add_le s.low t.low x y p.0 q.0) (add_le x y s.high t.high p.1 q.1)

folded_spans : (f : Function) (s t : Span) (x y : ℤ) → spans s x ≡ true → spans t y ≡ true → spans (folded_span f s t) (made f x y) ≡ true
folded_spans function.Min s t x y h k =
    let p = both_true (int_le s.low x) (int_le x s.high) h in
    let q = both_true (int_le t.low y) (int_le y t.high) k in
    and_both (int_le (least s.low t.low) (least x y)) (int_le (least x y) (least s.high t.high)) (least_both s.low t.low x y p.0 q.0) (least_both x y s.high t.high p.1 q.1)
folded_spans function.Max s t x y h k =
    let p = both_true (int_le s.low x) (int_le x s.high) h in
    let q = both_true (int_le t.low y) (int_le y t.high) k in
    and_both (int_le (greatest s.low t.low) (greatest x y)) (int_le (greatest x y) (greatest s.high t.high)) (greatest_both s.low t.low x y p.0 q.0) (greatest_both x y s.high t.high p.1 q.1)
folded_spans function.Sum s t x y h k = sum_spans s t x y h k
folded_spans function.Abs s t x y h k = sum_spans s t x y h k
folded_spans function.Count s t x y h k = sum_spans s t x y h k

pub folded_has : (f : Function) (s t : Option Span) (x y : ℤ) → within_span s x ≡ true → within_span t y ≡ true → within_span (folded_if f s t) (made f x y) ≡ true
folded_has f None t x y h k = cc
folded_has f (Some s) None x y h k = cc
folded_has f (Some s) (Some t) x y h k = folded_spans f s t x y h k

pub span_met : (s : Span) (z : ℤ) → spans s z ≡ true → Met (bounded s.low s.high) z
span_met s z h = let p = both_true (int_le s.low z) (int_le z s.high) h in bounded_met s.low s.high z p.0 p.1
