-- Internal: the values that satisfy unary tests, from what their expressions can be.
use Rattle.std.specs.Prelude.{ℤ, pos, ◌+ℤ◌, ◌-ℤ◌, int_lt, int_le, List, [], Bool, true, false, not, ◌&&◌, ◌||◌, Option, Some, None, if◌then◌else◌}
use Rattle.std.specs.List.{fold}
use Rattle.feel_text.specs.Expr.{Expr}
use Rattle.feel_text.specs.Meaning.{least, greatest}
use Rattle.feel_text.specs.Satisfied.{low_bound, high_bound}
use Rattle.feel_text.specs.Tests.{Bound, Below, AtMost, Above, AtLeast, Test, Compares, Interval, Equals, Tests, Any, OneOf, NoneOf}
use Rattle.dmn_ranges.specs.Numbers.{least_number, most_number}
use Rattle.dmn_ranges.specs.Steps.{nothing, anything, joined, outcomes, is_not_null}
use Rattle.dmn_ranges.specs.Sizes.{no_size, any_size}
use Rattle.dmn_ranges.specs.Texts.{any_if, is_some_text}
use Rattle.dmn_ranges.specs.declared.interval.Interval as interval
use Rattle.dmn_ranges.specs.declared.range.Range.{Range}
use Rattle.dmn_ranges.specs.declared.texts.Texts.TheVariants as few

-- the numbers that stand so to some number of these
abbrev pub standing : Bound → interval.Interval → Option interval.Interval
standing Below i = if int_lt least_number i.high then Some (record { low = least_number; high = i.high -ℤ pos 1 }) else None
standing AtMost i = Some (record { low = least_number; high = i.high })
standing Above i = if int_lt i.low most_number then Some (record { low = i.low +ℤ pos 1; high = most_number }) else None
standing AtLeast i = Some (record { low = i.low; high = most_number })

abbrev pub standing_if : Bound → Option interval.Interval → Option interval.Interval
standing_if b None = None
standing_if b (Some i) = standing b i

-- the numbers between two, unless there are none
abbrev pub between_ends : ℤ → ℤ → Option interval.Interval
between_ends low high = if int_le low high then Some (record { low = low; high = high }) else None

-- the numbers that both have
abbrev pub shared : Option interval.Interval → Option interval.Interval → Option interval.Interval
shared None y = None
shared (Some x) None = None
shared (Some x) (Some y) = between_ends (greatest x.low y.low) (least x.high y.high)

-- numbers, and any text where this is said
abbrev pub numbers_and_texts : Option interval.Interval → Bool → Range
numbers_and_texts i t = record { nulls = false; trues = false; falses = false; numbers = i; texts = any_if t; lists = false; contexts = false; size = no_size }

-- the values that stand so to a value of the range: numbers to numbers, texts to texts
abbrev pub compared_values : Bound → Range → Range
compared_values b r = numbers_and_texts (standing_if b r.numbers) (is_some_text r.texts)

abbrev pub between_values : Bound → Range → Bound → Range → Range
between_values b low c high = numbers_and_texts (shared (standing_if b low.numbers) (standing_if c high.numbers)) (is_some_text low.texts && is_some_text high.texts)

-- the values that are a value of the range, or a member of one
abbrev pub equal_values : Range → Range
equal_values r = if r.lists || r.contexts then anything else r

-- what an expression without names can give
abbrev pub alone : Expr → Range
alone e = (outcomes e []).range

abbrev pub test_values : Test → Range
test_values (Compares b e) = compared_values b (alone e)
test_values (Interval closed_low low high closed_high) = between_values (low_bound closed_low) (alone low) (high_bound closed_high) (alone high)
test_values (Equals e) = equal_values (alone e)

abbrev pub with_test : Range → Test → Range
with_test r t = joined r (test_values t)

abbrev pub any_values : List Test → Range
any_values ts = fold with_test nothing ts

-- null is the only value that satisfies it
abbrev pub is_of_null : Test → Bool
is_of_null (Compares b e) = false
is_of_null (Interval closed_low low high closed_high) = false
is_of_null (Equals e) = not (is_not_null (alone e))

abbrev pub or_null : Bool → Test → Bool
or_null b t = b || is_of_null t

abbrev pub has_null : List Test → Bool
has_null ts = fold or_null false ts

-- any value, but null where this is said
abbrev pub anything_but : Bool → Range
anything_but b = record { nulls = not b; trues = true; falses = true; numbers = anything.numbers; texts = few.Any; lists = true; contexts = true; size = any_size }

abbrev pub domain_values : Tests → Range
domain_values Any = anything
domain_values (OneOf ts) = any_values ts
domain_values (NoneOf ts) = anything_but (has_null ts)
