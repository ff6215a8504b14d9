-- Internal: what unary tests can answer of a value, from what that value and their expressions can be.
use Rattle.std.specs.Prelude.{List, true, false, ◌||◌}
use Rattle.std.specs.List.{fold}
use Rattle.feel_text.specs.Satisfied.{low_bound, high_bound}
use Rattle.feel_text.specs.Tests.{Bound, Below, AtMost, Above, AtLeast, Test, Compares, Interval, Equals, Tests, Any, OneOf, NoneOf}
use Rattle.dmn_ranges.specs.Ranges.{Scope}
use Rattle.dmn_ranges.specs.Steps.{outcomes, less_truths, equal_truths, opposite, and_truths, or_truths}
use Rattle.dmn_ranges.specs.declared.entries.Answers.{Answers}
use Rattle.dmn_ranges.specs.declared.outcomes.Outcomes.{Outcomes}
use Rattle.dmn_ranges.specs.declared.range.Range.{Range}
use Rattle.dmn_ranges.specs.declared.truths.Truths.{Truths}

abbrev pub stands : Bound → Range → Range → Truths
stands Below v d = less_truths v d
stands AtMost v d = opposite (less_truths d v)
stands Above v d = less_truths d v
stands AtLeast v d = opposite (less_truths v d)

-- the input is the value, or in the list that it is
abbrev pub among : Range → Range → Truths
among v d = record { yes = (equal_truths v d).yes || d.lists; no = (equal_truths v d).no || (equal_truths v d).unknown; unknown = false }

abbrev pub answered : Outcomes → (Range → Truths) → Answers
answered o f = record { truth = f o.range; limit = o.limit }

abbrev pub both_answers : (Truths → Truths → Truths) → Answers → Answers → Answers
both_answers f a b = record { truth = f a.truth b.truth; limit = a.limit || b.limit }

abbrev pub compared : Bound → Range → Outcomes → Answers
compared bound v o = answered o (stands bound v)

abbrev pub test_answers : Range → Scope → Test → Answers
test_answers v xs (Compares bound e) = compared bound v (outcomes e xs)
test_answers v xs (Interval closed_low low high closed_high) = both_answers and_truths (compared (low_bound closed_low) v (outcomes low xs)) (compared (high_bound closed_high) v (outcomes high xs))
test_answers v xs (Equals e) = answered (outcomes e xs) (among v)

abbrev pub always : Answers
always = record { truth = record { yes = true; no = false; unknown = false }; limit = false }

abbrev pub never : Answers
never = record { truth = record { yes = false; no = true; unknown = false }; limit = false }

abbrev pub or_test : Range → Scope → Answers → Test → Answers
or_test v xs a t = both_answers or_truths a (test_answers v xs t)

abbrev pub any_answers : Range → Scope → List Test → Answers
any_answers v xs ts = fold (or_test v xs) never ts

abbrev pub opposite_answers : Answers → Answers
opposite_answers a = record { truth = opposite a.truth; limit = a.limit }

abbrev pub entry_answers : Range → Scope → Tests → Answers
entry_answers v xs Any = always
entry_answers v xs (OneOf ts) = any_answers v xs ts
entry_answers v xs (NoneOf ts) = opposite_answers (any_answers v xs ts)
