-- Internal: what a decision table can give: of each rule whether it can hit and what it then gives, and of the rules together what the hit
-- policy makes of them.
use Rattle.std.specs.Prelude.{ℕ, pos, List, [], ◌∷◌, length, map, nat_eq, Bool, true, false, ◌&&◌, ◌||◌, Option, None, Some, option_map, if◌then◌else◌}
use Rattle.std.specs.List.{fold, list_all, list_any, zip}
use Rattle.std.specs.Option.{is_none}
use Rattle.feel_value.specs.Distinct.{are_distinct}
use Rattle.feel_text.specs.Expr.{Expr}
use Rattle.feel_text.specs.Meaning.{least, greatest}
use Rattle.feel_text.specs.Tests.{Tests}
use Rattle.dmn_table.specs.Table.{Column, Rule, Table}
use Rattle.dmn_table.specs.declared.hit_policy.HitPolicy.{HitPolicy}
use Rattle.dmn_table.specs.declared.hit_policy.HitPolicy.TheVariants.{Unique, Any, Priority, First, OutputOrder, RuleOrder, Collect, Sum, Least, Greatest, Count}
use Rattle.dmn_ranges.specs.Numbers.{bounded, sum}
use Rattle.dmn_ranges.specs.Ranges.{Scope, null_alone}
use Rattle.dmn_ranges.specs.Steps.{outcomes, nothing, joined, is_other, everything, given, limited, either_outcomes, when, numbers_given, size_of, contexts_of, listed, no_parts, with_part, context_of}
use Rattle.dmn_ranges.specs.Sizes.{any_size, times}
use Rattle.dmn_ranges.specs.Entries.{entry_answers}
use Rattle.dmn_ranges.specs.declared.bounded.Bounded.{Bounded}
use Rattle.dmn_ranges.specs.declared.entries.Answers.{Answers}
use Rattle.dmn_ranges.specs.declared.interval.Interval.{Interval}
use Rattle.dmn_ranges.specs.declared.outcomes.Outcomes.{Outcomes}
use Rattle.dmn_ranges.specs.declared.range.Range.{Range}
use Rattle.dmn_ranges.specs.declared.parts.Parts.{Parts}
use Rattle.dmn_ranges.specs.declared.rule.Hits.{Hits}
use Rattle.dmn_ranges.specs.declared.rule.Shape.{Shape}
use Rattle.dmn_ranges.specs.declared.tally.Tally.{Tally}

-- ---- a rule

-- of a rule with no entry
abbrev pub surely : Hits
surely = record { hit = true; miss = false; limit = false }

abbrev pub with_entry : Hits → Answers → Hits
with_entry h a = record { hit = h.hit && a.truth.yes; miss = h.miss || (a.truth.no || a.truth.unknown); limit = h.limit || a.limit }

-- an entry, asked of what its column's input can be
abbrev pub ask_entry : Scope → Hits → Tests × Outcomes → Hits
ask_entry xs h p = with_entry h (entry_answers p.1.range xs p.0)

abbrev pub rule_hits : Scope → List (Tests × Outcomes) → Hits
rule_hits xs ps = fold (ask_entry xs) surely ps

-- a context, or a limit is broken
abbrev pub some_context : Outcomes
some_context = record { range = contexts_of any_size; limit = true }

-- the output columns: whether there is a single one, and whether their names are distinct
abbrev pub shape_of : List Column → Shape
shape_of cs = record { single = nat_eq (length cs) 1; distinct = are_distinct (map (λ c. c.name) cs) }

abbrev pub with_expr : Scope → Parts → Expr → Parts
with_expr xs p e = with_part p (outcomes e xs)

abbrev pub expr_parts : Scope → List Expr → Parts
expr_parts xs es = fold (with_expr xs) no_parts es

-- the only one
abbrev pub only : Scope → List Expr → Outcomes
only xs [] = some_context
only xs (e ∷ []) = outcomes e xs
only xs (e ∷ f ∷ es) = some_context

-- the output entries under such columns
abbrev pub rule_gives : Shape → Scope → List Expr → Outcomes
rule_gives shape xs es = if shape.single then only xs es else context_of shape.distinct (expr_parts xs es)

-- ---- the rules together

-- a number of the interval, or 0
abbrev pub or_zero : Interval → Interval
or_zero x = record { low = least x.low (pos 0); high = greatest x.high (pos 0) }

abbrev pub zero_alone : Interval
zero_alone = record { low = pos 0; high = pos 0 }

-- what a rule can add to a sum
abbrev pub share : Hits → Option Interval → Interval
share h None = zero_alone
share h (Some x) = if h.hit then (if h.miss then or_zero x else x) else zero_alone

abbrev pub unless_past : Bounded → Option Interval
unless_past b = if b.limit then None else Some b.numbers

-- a sum that can be past the range of numbers is not told any more
abbrev pub plus : Option Interval → Interval → Option Interval
plus None y = None
plus (Some x) y = unless_past (sum x y)

abbrev pub joined_if : Bool → Range → Range → Range
joined_if b r s = if b then joined r s else r

-- of no rule
abbrev pub blank : Tally
blank = record { outputs = nothing; first = nothing; total = Some zero_alone; may_be_none = true; may_be_some = false; may_be_several = false; limit = false }

abbrev pub tally_with : Tally → Hits → Outcomes → Tally
tally_with t h o = record {
  outputs = joined_if h.hit t.outputs o.range;
  first = joined_if (h.hit && t.may_be_none) t.first o.range;
  total = plus t.total (share h o.range.numbers);
  may_be_none = t.may_be_none && h.miss;
  may_be_some = t.may_be_some || h.hit;
  may_be_several = t.may_be_several || (t.may_be_some && h.hit);
  limit = t.limit || (h.limit || (h.hit && o.limit));
}

abbrev pub tally_rule : Shape → List Outcomes → Scope → Tally → Rule → Tally
tally_rule shape columns xs t r = tally_with t (rule_hits xs (zip r.tests columns)) (rule_gives shape xs r.gives)

abbrev pub tally_rules : Shape → List Outcomes → Scope → List Rule → Tally
tally_rules shape columns xs rs = fold (tally_rule shape columns xs) blank rs

-- ---- the hit policy

-- null where two rules can hit
abbrev pub null_if : Bool → Range → Range
null_if b r = if b then joined r null_alone else r

abbrev pub any_sum : Bounded
any_sum = record { numbers = everything; limit = true }

abbrev pub within_bounds : Interval → Bounded
within_bounds x = bounded x.low x.high

abbrev pub summed : Option Interval → Option Interval → Option Bounded
summed None total = None
summed (Some x) None = Some any_sum
summed (Some x) (Some total) = Some (within_bounds total)

-- what the policy makes of the outputs of the rules that hit, of which there is one at least and at most so many
abbrev pub by_policy : HitPolicy → Tally → ℕ → Outcomes
by_policy Unique t n = given (null_if t.may_be_several t.outputs)
by_policy Any t n = given (null_if t.may_be_several t.outputs)
by_policy Priority t n = given t.outputs
by_policy First t n = given t.first
by_policy OutputOrder t n = listed (times n (size_of t.outputs))
by_policy RuleOrder t n = listed (times n (size_of t.outputs))
by_policy Collect t n = listed (times n (size_of t.outputs))
by_policy Sum t n = numbers_given (is_other t.outputs) (summed t.outputs.numbers t.total)
by_policy Least t n = numbers_given (is_other t.outputs) (option_map within_bounds t.outputs.numbers)
by_policy Greatest t n = numbers_given (is_other t.outputs) (option_map within_bounds t.outputs.numbers)
by_policy Count t n = numbers_given false (Some (bounded (pos 1) (pos n)))

-- ---- the defaults

abbrev pub fallback_outcomes : Scope → Option Expr → Outcomes
fallback_outcomes xs None = given null_alone
fallback_outcomes xs (Some e) = outcomes e xs

abbrev pub with_fallback : Scope → Parts → Column → Parts
with_fallback xs p c = with_part p (fallback_outcomes xs c.fallback)

abbrev pub fallback_parts : Scope → List Column → Parts
fallback_parts xs cs = fold (with_fallback xs) no_parts cs

abbrev pub fallbacks : Bool → Scope → List Column → Outcomes
fallbacks distinct xs [] = some_context
fallbacks distinct xs (c ∷ []) = fallback_outcomes xs c.fallback
fallbacks distinct xs (c ∷ d ∷ cs) = context_of distinct (fallback_parts xs (c ∷ d ∷ cs))

abbrev pub default_outcomes : Bool → Scope → List Column → Outcomes
default_outcomes distinct xs cs = if list_all (λ c. is_none c.fallback) cs then given null_alone else fallbacks distinct xs cs

-- ---- the table

abbrev pub column_outcomes : Scope → List Expr → List Outcomes
column_outcomes xs es = map (λ e. outcomes e xs) es

abbrev pub some_limit : List Outcomes → Bool
some_limit os = list_any (λ o. o.limit) os

abbrev pub with_tally : Table → Scope → Bool → Tally → Outcomes
with_tally t xs l s = limited (l || s.limit) (either_outcomes (when s.may_be_some (by_policy t.policy s (length t.rules))) (when s.may_be_none (default_outcomes (shape_of t.outputs).distinct xs t.outputs)))
