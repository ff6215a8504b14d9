-- Arithmetic on intervals.
use Rattle.std.specs.Prelude.{ℕ, ℤ, pos, negsuc, neg_ℤ, int_lt, int_le, ◌*◌, ◌+ℤ◌, ◌-ℤ◌, ◌*ℤ◌, ◌≤ℤ◌, Bool, false, ◌||◌, Option, Some, None, if◌then◌else◌, ⊤}
use Rattle.feel_text.specs.declared.expr.Function.{Function}
use Rattle.feel_text.specs.declared.expr.Function.TheVariants as function
use Rattle.feel_text.specs.Meaning.{least, greatest}
use Rattle.dmn_ranges.specs.declared.bounded.Bounded.{Bounded}
use Rattle.dmn_ranges.specs.declared.interval.Interval.{Interval}
use Rattle.dmn_ranges.specs.declared.span.Span.{Span}

abbrev pub least_number : ℤ
least_number = negsuc 9223372036854775806

abbrev pub most_number : ℤ
most_number = pos 9223372036854775807

-- the number of the range of numbers that is nearest
abbrev pub clamped : ℤ → ℤ
clamped z = if int_lt z least_number then least_number else (if int_lt most_number z then most_number else z)

abbrev pub is_past : ℤ → Bool
is_past z = int_lt z least_number || int_lt most_number z

-- the numbers between two
abbrev pub bounded : ℤ → ℤ → Bounded
bounded low high = record { numbers = record { low = clamped low; high = clamped high }; limit = is_past low || is_past high }

abbrev pub sum : Interval → Interval → Bounded
sum x y = bounded (x.low +ℤ y.low) (x.high +ℤ y.high)

abbrev pub difference : Interval → Interval → Bounded
difference x y = bounded (x.low -ℤ y.high) (x.high -ℤ y.low)

abbrev pub least_times : ℤ → Interval → ℤ
least_times z y = least (z *ℤ y.low) (z *ℤ y.high)

abbrev pub greatest_times : ℤ → Interval → ℤ
greatest_times z y = greatest (z *ℤ y.low) (z *ℤ y.high)

-- A product lies between those of the ends.
abbrev pub least_product : Interval → Interval → ℤ
least_product x y = least (least_times x.low y) (least_times x.high y)

abbrev pub greatest_product : Interval → Interval → ℤ
greatest_product x y = greatest (greatest_times x.low y) (greatest_times x.high y)

abbrev pub product : Interval → Interval → Bounded
product x y = bounded (least_product x y) (greatest_product x y)

-- the least that a number of the interval is from 0
abbrev pub nearest : Interval → ℤ
nearest x = if int_lt (pos 0) x.low then (pos 0 +ℤ x.low) else (if int_lt x.high (pos 0) then (pos 0 -ℤ x.high) else pos 0)

-- the most
abbrev pub furthest : Interval → ℤ
furthest x = greatest (pos 0 -ℤ x.low) (pos 0 +ℤ x.high)

abbrev pub absolute : Interval → Bounded
absolute x = bounded (nearest x) (furthest x)

-- What is left by a number of the interval: it lies between 0 and that number, which it isn't.
abbrev pub remainder : Interval → Bounded
remainder y = bounded (least (y.low +ℤ pos 1) (pos 0)) (greatest (y.high -ℤ pos 1) (pos 0))

-- some number is not 0
abbrev pub has_divisor : Interval → Bool
has_divisor y = int_lt y.low (pos 0) || int_lt (pos 0) y.high

abbrev pub hull : Option Interval → Option Interval → Option Interval
hull None y = y
hull (Some x) None = Some x
hull (Some x) (Some y) = Some (record { low = least x.low y.low; high = greatest x.high y.high })

-- some number of the first is less than some number of the second
abbrev pub are_less : Option Interval → Option Interval → Bool
are_less None y = false
are_less (Some x) None = false
are_less (Some x) (Some y) = int_lt x.low y.high

-- some number of the first is not less than some number of the second
abbrev pub reach : Option Interval → Option Interval → Bool
reach None y = false
reach (Some x) None = false
reach (Some x) (Some y) = int_le y.low x.high

-- ---- numbers that are not held against the range of numbers yet

abbrev pub widened : Interval → Span
widened i = record { low = i.low; high = i.high }

abbrev pub widened_if : Option Interval → Option Span
widened_if None = None
widened_if (Some i) = Some (widened i)

-- what a function makes of two numbers of a list
abbrev pub folded_span : Function → Span → Span → Span
folded_span function.Min s t = record { low = least s.low t.low; high = least s.high t.high }
folded_span function.Max s t = record { low = greatest s.low t.low; high = greatest s.high t.high }
folded_span f s t = record { low = s.low +ℤ t.low; high = s.high +ℤ t.high }

abbrev pub folded_if : Function → Option Span → Option Span → Option Span
folded_if f None t = None
folded_if f (Some s) None = None
folded_if f (Some s) (Some t) = Some (folded_span f s t)

abbrev pub held_if : Option Span → Option Bounded
held_if None = None
held_if (Some s) = Some (bounded s.low s.high)

-- no further from 0 than the sum of so many numbers of 64 bits
abbrev pub IsNear : ℕ → ℤ → Type 0
IsNear n z = (neg_ℤ (pos (n * 9223372036854775808)) ≤ℤ z) × (z ≤ℤ pos (n * 9223372036854775808))

abbrev pub AreNear : ℕ → Option Span → Type 0
AreNear n None = ⊤
AreNear n (Some s) = IsNear n s.low × IsNear n s.high
