-- The result of a decision table.
use Rattle.std.specs.Prelude.{ℤ, pos, ◌+ℤ◌, List, [], ◌∷◌, if◌then◌else◌, map, length, Option, None, Some}
use Rattle.std.specs.List.{list_all, fold}
use Rattle.std.specs.Option.{is_none}
use Rattle.std.specs.Int.{int_min, int_max}
use Rattle.feel_value.specs.Datum.{Datum, null, number, list, items_of}
use Rattle.feel_value.specs.Logic.{is_yes}
use Rattle.feel_value.specs.Comparison.{equal}
use Rattle.feel_value.specs.Outcome.{held}
use Rattle.feel_value.specs.declared.feel.Outcome.{Outcome}
use Rattle.feel_value.specs.declared.feel.Outcome.TheVariants.{Is}
use Rattle.feel_text.specs.Expr.{Expr}
use Rattle.feel_text.specs.Meaning.{den, Bindings}
use Rattle.feel_value.specs.Found.{value_of, ◌>>=◌, each, outcome_from}
use Rattle.dmn_table.specs.declared.hit_policy.HitPolicy.{HitPolicy}
use Rattle.dmn_table.specs.declared.hit_policy.HitPolicy.TheVariants.{Unique, Any, Priority, First, OutputOrder, RuleOrder, Collect, Sum, Least, Greatest, Count}
use Rattle.dmn_table.specs.Table.{Column, Table}
use Rattle.dmn_table.specs.Hits.{hits, hit_of, output_of}
use Rattle.dmn_table.specs.Priority.{Hit, in_priority}

-- the only one; null where there are two or more
abbrev pub only_one : List Datum → Datum
only_one (d ∷ []) = d
only_one _ = null

-- the first
abbrev pub first_of : List Datum → Datum
first_of [] = null
first_of (d ∷ ds) = d

-- the first where it equals each, otherwise null
abbrev pub common_one : List Datum → Datum
common_one ds = if list_all (λ d. is_yes (equal (first_of ds) d)) ds then first_of ds else null

abbrev pub number_in : Datum → Option ℤ
number_in (number z) = Some z
number_in _ = None

-- the numbers; None where one value is no number
abbrev pub numbers_of : List Datum → Option (List ℤ)
numbers_of = each number_in

abbrev pub sum_of : List ℤ → ℤ
sum_of zs = fold ◌+ℤ◌ (pos 0) zs

abbrev pub least_of : List ℤ → ℤ
least_of [] = pos 0
least_of (z ∷ zs) = fold int_min z zs

abbrev pub greatest_of : List ℤ → ℤ
greatest_of [] = pos 0
greatest_of (z ∷ zs) = fold int_max z zs

-- the number that the operator makes, held against the limits; null where one value is no number
abbrev pub of_numbers : (List ℤ → ℤ) → Option (List ℤ) → Outcome
of_numbers operator None = Is null
of_numbers operator (Some zs) = held (number (operator zs))

abbrev pub list_of : List Datum → Outcome
list_of ds = held (list (items_of ds))

-- the result that a hit policy makes of the hits, of which there is at least one
abbrev pub policy_result : HitPolicy → List Hit → Outcome
policy_result Unique hs = Is (only_one (map (λ h. h.output) hs))
policy_result Any hs = Is (common_one (map (λ h. h.output) hs))
policy_result Priority hs = Is (first_of (map (λ h. h.output) (in_priority hs)))
policy_result First hs = Is (first_of (map (λ h. h.output) hs))
policy_result OutputOrder hs = list_of (map (λ h. h.output) (in_priority hs))
policy_result RuleOrder hs = list_of (map (λ h. h.output) hs)
policy_result Collect hs = list_of (map (λ h. h.output) hs)
policy_result Sum hs = of_numbers sum_of (numbers_of (map (λ h. h.output) hs))
policy_result Least hs = of_numbers least_of (numbers_of (map (λ h. h.output) hs))
policy_result Greatest hs = of_numbers greatest_of (numbers_of (map (λ h. h.output) hs))
policy_result Count hs = held (number (pos (length hs)))

-- the value of a column's default; null where it has none
abbrev pub default_of : Bindings → Option Expr → Outcome
default_of m None = Is null
default_of m (Some e) = den e m

abbrev pub default_values : List Column → Bindings → Option (List Datum)
default_values columns m = each (λ c. value_of (default_of m c.fallback)) columns

-- where no rule hits: null where no column has a default, otherwise the defaults as one output
abbrev pub defaults : List Column → Bindings → Outcome
defaults columns m =
    if list_all (λ c. is_none c.fallback) columns then Is null
    else outcome_from (output_of columns) (default_values columns m)

-- the result, from the hits
abbrev pub result_from : Table → Bindings → List Hit → Outcome
result_from t m [] = defaults t.outputs m
result_from t m (h ∷ hs) = policy_result t.policy (h ∷ hs)

-- the hits with their outputs: the output entries of all rules that hit are evaluated
abbrev pub found_hits : Table → Bindings → Option (List Hit)
found_hits t m = hits t m >>= λ rules. each (hit_of t.outputs m) rules

-- the outcome of the table under these bindings
abbrev pub table_result : Table → Bindings → Outcome
table_result t m = outcome_from (result_from t m) (found_hits t m)
