-- What is told of a table holds of its result.
use Rattle.std.proofs.Common.{◌≡◌, ◌∙◌, refl, sym, ap, subst, ℕ, suc, ◌+◌, ◌≤◌, ℤ, pos, ◌+ℤ◌, List, [], ◌∷◌, length, Bool, true, false, ◌&&◌, ◌||◌, Option, None, Some, option_map, if◌then◌else◌, arith, cond}
use Rattle.std.specs.Prelude.{int_le, int_lt}
use Rattle.std.specs.Int.{int_min, int_max}
use Rattle.std.specs.List.{fold, list_all}
use Rattle.std.proofs.lemmas.Int.{ints}
use Rattle.feel_value.proofs.Laws.{equal_itself}
use Rattle.feel_value.specs.Comparison.{equal}
use Rattle.feel_value.specs.Datum.{Datum, null, boolean, number, text, list, context, items_of}
use Rattle.feel_value.specs.Found.{◌>>=◌, each, outcome_from}
use Rattle.feel_value.specs.Logic.{is_yes}
use Rattle.feel_value.specs.Outcome.{held}
use Rattle.feel_text.specs.Meaning.{Bindings}
use Rattle.dmn_table.proofs.Each.{each_length}
use Rattle.dmn_table.specs.Hits.{does_hit, kept, hit_of, values_of}
use Rattle.dmn_table.specs.Priority.{Hit, is_higher, put_before, in_priority}
use Rattle.dmn_table.specs.Result.{only_one, first_of, common_one, numbers_of, sum_of, least_of, greatest_of, of_numbers, list_of, policy_result, defaults, result_from, table_result}
use Rattle.dmn_table.specs.Table.{Column, Rule, Table}
use Rattle.dmn_table.specs.declared.hit_policy.HitPolicy.{HitPolicy}
use Rattle.dmn_table.specs.declared.hit_policy.HitPolicy.TheVariants.{Unique, Any, Priority, First, OutputOrder, RuleOrder, Collect, Sum, Least, Greatest, Count}
use Rattle.dmn_ranges.specs.Asking.{Narrows}
use Rattle.dmn_ranges.specs.Numbers.{bounded}
use Rattle.dmn_ranges.specs.Ranges.{Scope, Fits, within, lies_in, covers, null_alone}
use Rattle.dmn_ranges.specs.Steps.{outcomes, is_other, either_outcomes, when, numbers_given, size_of, listed}
use Rattle.dmn_ranges.specs.Sizes.{times}
use Rattle.dmn_ranges.specs.Tables.{null_if, any_sum, within_bounds, summed, by_policy, shape_of, default_outcomes, column_outcomes, some_limit, tally_rules, with_tally}
use Rattle.dmn_ranges.specs.declared.interval.Interval.{Interval}
use Rattle.dmn_ranges.specs.declared.outcomes.Outcomes.{Outcomes}
use Rattle.dmn_ranges.specs.declared.range.Range.{Range}
use Rattle.dmn_ranges.specs.declared.tally.Tally.{Tally}
use Rattle.dmn_ranges.proofs.Forms.{joined_one, joined_other, limited_covers, either_one, either_other, when_covers, met_covers, null_covers}
use Rattle.dmn_ranges.proofs.Formed.{times_fit}
use Rattle.dmn_ranges.proofs.Sizes.{list_covers, along_right}
use Rattle.dmn_ranges.proofs.Walks.{same_length}
use Rattle.dmn_ranges.proofs.Intervals.{bounded_met, low_of, high_of, number_in_all}
use Rattle.dmn_ranges.proofs.Joins.{or_left, or_right, and_both, other_in}
use Rattle.dmn_ranges.proofs.SoundAsking.{narrowed_told}
use Rattle.dmn_ranges.proofs.SoundRules.{InputsTold, inputs_told, gives_told, defaults_told}
use Rattle.dmn_ranges.proofs.SoundTallies.{Tells, FoundTold, rules_told, hits_among, outputs_of_hits, total_of, sums_to, several_told}

-- ---- one of the outputs

first_part : (p q : Bool) → (p && q) ≡ true → p ≡ true
first_part true q h = refl
first_part false q h = cc

second_part : (p q : Bool) → (p && q) ≡ true → q ≡ true
second_part true q h = h
second_part false q h = cc

null_if_one : (b : Bool) (r : Range) (d : Datum) → lies_in r d ≡ true → lies_in (null_if b r) d ≡ true
null_if_one true r d h = joined_one r null_alone d h
null_if_one false r d h = h

null_if_null : (b : Bool) (r : Range) → b ≡ true → lies_in (null_if b r) null ≡ true
null_if_null true r h = joined_other r null_alone null refl
null_if_null false r h = cc

only_told : (b : Bool) (r : Range) (d : Datum) (ds : List Datum) (t : Tally) → lies_in r d ≡ true → several_told t (d ∷ ds) ≡ true → lies_in (null_if t.may_be_several r) (only_one (d ∷ ds)) ≡ true
only_told b r d [] t h k = null_if_one t.may_be_several r d h
only_told b r d (e ∷ ds) t h k = null_if_null t.may_be_several r k

if_told : (r : Range) (d : Datum) (same : Bool) → lies_in r d ≡ true → lies_in r null ≡ true → lies_in r (if same then d else null) ≡ true
if_told r d true h k = h
if_told r d false h k = k

alone : (r : Range) (d : Datum) (same : Bool) → same ≡ true → lies_in r d ≡ true → lies_in r (if same && true then d else null) ≡ true
alone r d true e h = h
alone r d false e h = cc

common_told : (r : Range) (d : Datum) (ds : List Datum) (t : Tally) → lies_in r d ≡ true → several_told t (d ∷ ds) ≡ true → lies_in (null_if t.may_be_several r) (common_one (d ∷ ds)) ≡ true
common_told r d [] t h k = alone (null_if t.may_be_several r) d (is_yes (equal d d)) (ap is_yes (equal_itself d)) (null_if_one t.may_be_several r d h)
common_told r d (e ∷ ds) t h k =
    if_told (null_if t.may_be_several r) d (list_all (λ c. is_yes (equal d c)) (d ∷ e ∷ ds)) (null_if_one t.may_be_several r d h) (null_if_null t.may_be_several r k)

-- ---- the order of priority

put_by : (b : Bool) (r : Range) (h k : Hit) (ks : List Hit) → lies_in r h.output ≡ true → list_all (lies_in r) (outputs_of_hits (k ∷ ks)) ≡ true → list_all (lies_in r) (outputs_of_hits (put_before h ks)) ≡ true
    → list_all (lies_in r) (outputs_of_hits (if b then k ∷ put_before h ks else h ∷ k ∷ ks)) ≡ true
put_by true r h k ks e all rest = and_both (lies_in r k.output) (list_all (lies_in r) (outputs_of_hits (put_before h ks))) (first_part (lies_in r k.output) (list_all (lies_in r) (outputs_of_hits ks)) all) rest
put_by false r h k ks e all rest = and_both (lies_in r h.output) (list_all (lies_in r) (outputs_of_hits (k ∷ ks))) e all

put_told : (r : Range) (h : Hit) (ks : List Hit) → lies_in r h.output ≡ true → list_all (lies_in r) (outputs_of_hits ks) ≡ true → list_all (lies_in r) (outputs_of_hits (put_before h ks)) ≡ true
put_told r h [] e all = and_both (lies_in r h.output) true e refl
put_told r h (k ∷ ks) e all = put_by (is_higher k.places h.places) r h k ks e all (put_told r h ks e (second_part (lies_in r k.output) (list_all (lies_in r) (outputs_of_hits ks)) all))

priority_told : (r : Range) (hs : List Hit) → list_all (lies_in r) (outputs_of_hits hs) ≡ true → list_all (lies_in r) (outputs_of_hits (in_priority hs)) ≡ true
priority_told r [] all = refl
priority_told r (h ∷ hs) all =
    put_told r h (in_priority hs) (first_part (lies_in r h.output) (list_all (lies_in r) (outputs_of_hits hs)) all) (priority_told r hs (second_part (lies_in r h.output) (list_all (lies_in r) (outputs_of_hits hs)) all))

head_by : (b : Bool) (r : Range) (h k : Hit) (ks : List Hit) → lies_in r h.output ≡ true → lies_in r k.output ≡ true → lies_in r (first_of (outputs_of_hits (if b then k ∷ put_before h ks else h ∷ k ∷ ks))) ≡ true
head_by true r h k ks e f = f
head_by false r h k ks e f = e

head_told : (r : Range) (h : Hit) (ks : List Hit) → lies_in r h.output ≡ true → list_all (lies_in r) (outputs_of_hits ks) ≡ true → lies_in r (first_of (outputs_of_hits (put_before h ks))) ≡ true
head_told r h [] e all = e
head_told r h (k ∷ ks) e all = head_by (is_higher k.places h.places) r h k ks e (first_part (lies_in r k.output) (list_all (lies_in r) (outputs_of_hits ks)) all)

highest_told : (r : Range) (h : Hit) (hs : List Hit) → list_all (lies_in r) (outputs_of_hits (h ∷ hs)) ≡ true → lies_in r (first_of (outputs_of_hits (in_priority (h ∷ hs)))) ≡ true
highest_told r h hs all =
    head_told r h (in_priority hs) (first_part (lies_in r h.output) (list_all (lies_in r) (outputs_of_hits hs)) all) (priority_told r hs (second_part (lies_in r h.output) (list_all (lies_in r) (outputs_of_hits hs)) all))

-- ---- numbers

rest_none : (z : ℤ) (o : Option (List ℤ)) → (o >>= λ ys. Some (z ∷ ys)) ≡ None → o ≡ None
rest_none z None e = refl
rest_none z (Some ys) e = cc

-- one of the outputs is no number
other_among : (r : Range) (ds : List Datum) → list_all (lies_in r) ds ≡ true → numbers_of ds ≡ None → is_other r ≡ true
other_among r [] h e = cc
other_among r (number z ∷ ds) h e = other_among r ds (second_part (within r.numbers z) (list_all (lies_in r) ds) h) (rest_none z (numbers_of ds) e)
other_among r (null ∷ ds) h e = other_in r null (first_part (lies_in r null) (list_all (lies_in r) ds) h) refl
other_among r (boolean b ∷ ds) h e = other_in r (boolean b) (first_part (lies_in r (boolean b)) (list_all (lies_in r) ds) h) refl
other_among r (text s ∷ ds) h e = other_in r (text s) (first_part (lies_in r (text s)) (list_all (lies_in r) ds) h) refl
other_among r (list es ∷ ds) h e = other_in r (list es) (first_part (lies_in r (list es)) (list_all (lies_in r) ds) h) refl
other_among r (context es ∷ ds) h e = other_in r (context es) (first_part (lies_in r (context es)) (list_all (lies_in r) ds) h) refl

-- the first of them is a number
number_first : (o : Option Interval) (r : Range) (d : Datum) (ds : List Datum) (zs : List ℤ) → o ≡ r.numbers → lies_in r d ≡ true → numbers_of (d ∷ ds) ≡ Some zs → (z : ℤ) × (within o z ≡ true)
number_first o r (number w) ds zs q h e = (w, ap (λ p. within p w) q ∙ h)
number_first o r null ds zs q h e = cc
number_first o r (boolean b) ds zs q h e = cc
number_first o r (text s) ds zs q h e = cc
number_first o r (list es) ds zs q h e = cc
number_first o r (context es) ds zs q h e = cc

total_step : (z w : ℤ) (o : Option (List ℤ)) → option_map (fold ◌+ℤ◌ z) (o >>= λ ys. Some (w ∷ ys)) ≡ option_map (fold ◌+ℤ◌ (z +ℤ w)) o
total_step z w None = refl
total_step z w (Some ys) = refl

-- their sum, where all are numbers
total_by : (z : ℤ) (ds : List Datum) → option_map (fold ◌+ℤ◌ z) (numbers_of ds) ≡ total_of z ds
total_by z [] = refl
total_by z (number w ∷ ds) = total_step z w (numbers_of ds) ∙ total_by (z +ℤ w) ds
total_by z (null ∷ ds) = refl
total_by z (boolean b ∷ ds) = refl
total_by z (text s ∷ ds) = refl
total_by z (list es ∷ ds) = refl
total_by z (context es ∷ ds) = refl

summed_covers : (n : Bool) (o total : Option Interval) (w z : ℤ) → within o w ≡ true → sums_to total z ≡ true → covers (numbers_given n (summed o total)) (held (number z)) ≡ true
summed_covers n None total w z h k = cc
summed_covers n (Some i) None w z h k = met_covers n any_sum z (number_in_all z, λ p. refl)
summed_covers n (Some i) (Some j) w z h k = met_covers n (within_bounds j) z (bounded_met j.low j.high z (low_of j z k) (high_of j z k))

sum_by : (t : Tally) (d : Datum) (ds : List Datum) (o : Option (List ℤ)) → Tells t (d ∷ ds) → numbers_of (d ∷ ds) ≡ o → covers (numbers_given (is_other t.outputs) (summed t.outputs.numbers t.total)) (of_numbers sum_of o) ≡ true
sum_by t d ds None tells e = null_covers (is_other t.outputs) (summed t.outputs.numbers t.total) (other_among t.outputs (d ∷ ds) tells.outputs e)
sum_by t d ds (Some zs) tells e =
    let here = number_first t.outputs.numbers t.outputs d ds zs refl (first_part (lies_in t.outputs d) (list_all (lies_in t.outputs) ds) tells.outputs) e in
    summed_covers (is_other t.outputs) t.outputs.numbers t.total here.0 (sum_of zs) here.1 (tells.total (sum_of zs) (sym (total_by (pos 0) (d ∷ ds)) ∙ ap (option_map (fold ◌+ℤ◌ (pos 0))) e))

within_by : (r : Option Interval) (w : ℤ) (o : Option (List ℤ)) (zs : List ℤ) → within r w ≡ true → ((ys : List ℤ) → o ≡ Some ys → list_all (within r) ys ≡ true) → (o >>= λ ys. Some (w ∷ ys)) ≡ Some zs → list_all (within r) zs ≡ true
within_by r w None zs h k e = cc
within_by r w (Some ys) zs h k e =
    let same : w ∷ ys ≡ zs = cc in
    let P : List ℤ → Type 0 = λ xs. list_all (within r) xs ≡ true in
    subst P same (and_both (within r w) (list_all (within r) ys) h (k ys refl))

-- each of the numbers is one of the range
all_within : (r : Range) (ds : List Datum) (zs : List ℤ) → list_all (lies_in r) ds ≡ true → numbers_of ds ≡ Some zs → list_all (within r.numbers) zs ≡ true
all_within r [] zs h e = let same : [] ≡ zs = cc in let P : List ℤ → Type 0 = λ xs. list_all (within r.numbers) xs ≡ true in subst P same refl
all_within r (number w ∷ ds) zs h e =
    within_by r.numbers w (numbers_of ds) zs (first_part (within r.numbers w) (list_all (lies_in r) ds) h) (λ ys q. all_within r ds ys (second_part (within r.numbers w) (list_all (lies_in r) ds) h) q) e
all_within r (null ∷ ds) zs h e = cc
all_within r (boolean b ∷ ds) zs h e = cc
all_within r (text s ∷ ds) zs h e = cc
all_within r (list es ∷ ds) zs h e = cc
all_within r (context es ∷ ds) zs h e = cc

empty_by : (w : ℤ) (o : Option (List ℤ)) → (o >>= λ ys. Some (w ∷ ys)) ≡ Some [] → ⊥
empty_by w None e = cc
empty_by w (Some ys) e = cc

never_empty : (d : Datum) (ds : List Datum) → numbers_of (d ∷ ds) ≡ Some [] → ⊥
never_empty (number w) ds e = empty_by w (numbers_of ds) e
never_empty null ds e = cc
never_empty (boolean b) ds e = cc
never_empty (text s) ds e = cc
never_empty (list es) ds e = cc
never_empty (context es) ds e = cc

-- an operator that gives one of its operands
abbrev Picks : (ℤ → ℤ → ℤ) → Type 0
Picks f = (o : Option Interval) (x y : ℤ) → within o x ≡ true → within o y ≡ true → within o (f x y) ≡ true

picked : (f : ℤ → ℤ → ℤ) → Picks f → (o : Option Interval) (z : ℤ) (zs : List ℤ) → within o z ≡ true → list_all (within o) zs ≡ true → within o (fold f z zs) ≡ true
picked f picks o z [] h k = h
picked f picks o z (y ∷ zs) h k = picked f picks o (f z y) zs (picks o z y h (first_part (within o y) (list_all (within o) zs) k)) (second_part (within o y) (list_all (within o) zs) k)

either_number : (o : Option Interval) (b : Bool) (x y : ℤ) → within o x ≡ true → within o y ≡ true → within o (cond b y x) ≡ true
either_number o true x y h k = k
either_number o false x y h k = h

least_picks : Picks int_min
least_picks o x y h k = either_number o (int_lt y x) x y h k

greatest_picks : Picks int_max
greatest_picks o x y h k = either_number o (int_lt y x) y x k h

extreme_covers : (n : Bool) (o : Option Interval) (z : ℤ) → within o z ≡ true → covers (numbers_given n (option_map within_bounds o)) (held (number z)) ≡ true
extreme_covers n None z h = cc
extreme_covers n (Some i) z h = met_covers n (within_bounds i) z (bounded_met i.low i.high z (low_of i z h) (high_of i z h))

extreme_by : (f : ℤ → ℤ → ℤ) (pick : List ℤ → ℤ) → Picks f → ((z : ℤ) (zs : List ℤ) → fold f z zs ≡ pick (z ∷ zs)) → (t : Tally) (d : Datum) (ds : List Datum) (o : Option (List ℤ)) → Tells t (d ∷ ds) → numbers_of (d ∷ ds) ≡ o
    → covers (numbers_given (is_other t.outputs) (option_map within_bounds t.outputs.numbers)) (of_numbers pick o) ≡ true
extreme_by f pick picks same t d ds None tells e = null_covers (is_other t.outputs) (option_map within_bounds t.outputs.numbers) (other_among t.outputs (d ∷ ds) tells.outputs e)
extreme_by f pick picks same t d ds (Some []) tells e = absurd (never_empty d ds e)
extreme_by f pick picks same t d ds (Some (z ∷ zs)) tells e =
    let all = all_within t.outputs (d ∷ ds) (z ∷ zs) tells.outputs e in
    let P : ℤ → Type 0 = λ x. covers (numbers_given (is_other t.outputs) (option_map within_bounds t.outputs.numbers)) (held (number x)) ≡ true in
    subst P (same z zs)
    (extreme_covers (is_other t.outputs) t.outputs.numbers (fold f z zs) (picked f picks t.outputs.numbers z zs (first_part (within t.outputs.numbers z) (list_all (within t.outputs.numbers) zs) all) (second_part (within t.outputs.numbers z) (list_all (within t.outputs.numbers) zs) all)))

-- ---- lists

sum_up : (a b : ℕ) → a ≡ b + 1 → suc a ≡ suc b + 1
sum_up a b e = omega (arith, e)

one_on : (a : ℕ) → suc a ≡ a + 1
one_on a = omega arith

put_by_length : (b : Bool) (h k : Hit) (ks : List Hit) → length (put_before h ks) ≡ length ks + 1 → length (if b then k ∷ put_before h ks else h ∷ k ∷ ks) ≡ length (k ∷ ks) + 1
put_by_length true h k ks e = sum_up (length (put_before h ks)) (length ks) e
put_by_length false h k ks e = one_on (length (k ∷ ks))

put_length : (h : Hit) (ks : List Hit) → length (put_before h ks) ≡ length ks + 1
put_length h [] = refl
put_length h (k ∷ ks) = put_by_length (is_higher k.places h.places) h k ks (put_length h ks)

priority_length : (hs : List Hit) → length (in_priority hs) ≡ length hs
priority_length [] = refl
priority_length (h ∷ hs) = put_length h (in_priority hs) ∙ ap (λ n. n + 1) (priority_length hs) ∙ sym (one_on (length hs))

one_at_least : (a n : ℕ) → suc a ≤ n → 1 ≤ n
one_at_least a n h = omega (arith, h)

some_rule : (h : Hit) (hs : List Hit) (n : ℕ) → length (h ∷ hs) ≤ n → 1 ≤ n
some_rule h hs n s = one_at_least (length hs) n s

several_told_in : (t : Tally) (n : ℕ) (hs : List Hit) → length hs ≤ n → 1 ≤ n → list_all (lies_in t.outputs) (outputs_of_hits hs) ≡ true → covers (listed (times n (size_of t.outputs))) (list_of (outputs_of_hits hs)) ≡ true
several_told_in t n hs s some all =
    list_covers (times n (size_of t.outputs)) (items_of (outputs_of_hits hs))
    (times_fit n t.outputs (outputs_of_hits hs) some (along_right (length (outputs_of_hits hs)) (length hs) n (same_length (λ (h : Hit). h.output) hs) s) all)

-- ---- each policy

one_low : (k : ℕ) → 1 ≤ k → int_le (pos 1) (pos k) ≡ true
one_low k h = grind (arith, ints)

most_high : (k n : ℕ) → k ≤ n → int_le (pos k) (pos n) ≡ true
most_high k n h = grind (arith, ints)

policy_told : (p : HitPolicy) (t : Tally) (n : ℕ) (h : Hit) (hs : List Hit) → Tells t (outputs_of_hits (h ∷ hs)) → length (h ∷ hs) ≤ n → covers (by_policy p t n) (policy_result p (h ∷ hs)) ≡ true
policy_told Unique t n h hs tells s = only_told true t.outputs h.output (outputs_of_hits hs) t (first_part (lies_in t.outputs h.output) (list_all (lies_in t.outputs) (outputs_of_hits hs)) tells.outputs) tells.several
policy_told Any t n h hs tells s = common_told t.outputs h.output (outputs_of_hits hs) t (first_part (lies_in t.outputs h.output) (list_all (lies_in t.outputs) (outputs_of_hits hs)) tells.outputs) tells.several
policy_told Priority t n h hs tells s = highest_told t.outputs h hs tells.outputs
policy_told First t n h hs tells s = tells.first
policy_told OutputOrder t n h hs tells s = several_told_in t n (in_priority (h ∷ hs)) (along_right (length (in_priority (h ∷ hs))) (length (h ∷ hs)) n (priority_length (h ∷ hs)) s) (some_rule h hs n s) (priority_told t.outputs (h ∷ hs) tells.outputs)
policy_told RuleOrder t n h hs tells s = several_told_in t n (h ∷ hs) s (some_rule h hs n s) tells.outputs
policy_told Collect t n h hs tells s = several_told_in t n (h ∷ hs) s (some_rule h hs n s) tells.outputs
policy_told Sum t n h hs tells s = sum_by t h.output (outputs_of_hits hs) (numbers_of (outputs_of_hits (h ∷ hs))) tells refl
policy_told Least t n h hs tells s = extreme_by int_min least_of least_picks (λ z zs. refl) t h.output (outputs_of_hits hs) (numbers_of (outputs_of_hits (h ∷ hs))) tells refl
policy_told Greatest t n h hs tells s = extreme_by int_max greatest_of greatest_picks (λ z zs. refl) t h.output (outputs_of_hits hs) (numbers_of (outputs_of_hits (h ∷ hs))) tells refl
policy_told Count t n h hs tells s =
    met_covers false (bounded (pos 1) (pos n)) (pos (length (h ∷ hs))) (bounded_met (pos 1) (pos n) (pos (length (h ∷ hs))) (one_low (length (h ∷ hs)) (omega arith)) (most_high (length (h ∷ hs)) n s))

-- ---- the table

kept_short : (rs : List Rule) (ys : List Bool) → length (kept rs ys) ≤ length rs
kept_short [] ys = omega arith
kept_short (r ∷ rs) [] = omega arith
kept_short (r ∷ rs) (true ∷ ys) = omega (arith, kept_short rs ys)
kept_short (r ∷ rs) (false ∷ ys) = omega (arith, kept_short rs ys)

hits_short : (m : Bindings) (cs : List Column) (rs : List Rule) (ys : Option (List Bool)) (hs : List Hit) → (ys >>= λ zs. each (hit_of cs m) (kept rs zs)) ≡ Some hs → length hs ≤ length rs
hits_short m cs rs None hs e = cc
hits_short m cs rs (Some zs) hs e = omega (arith, each_length (hit_of cs m) (kept rs zs) hs e, kept_short rs zs)

result_told : (t : Table) (xs : Scope) (m : Bindings) → Fits xs m → (l : Bool) (s : Tally) (found : Option (List Hit)) → FoundTold s (found >>= λ hs. Some (outputs_of_hits hs)) → ((hs : List Hit) → found ≡ Some hs → length hs ≤ length t.rules)
    → covers (with_tally t xs l s) (outcome_from (result_from t m) found) ≡ true
result_told t xs m f l s None told short = or_left (l || s.limit) (either_outcomes (when s.may_be_some (by_policy t.policy s (length t.rules))) (when s.may_be_none (default_outcomes (shape_of t.outputs).distinct xs t.outputs))).limit (or_right l s.limit told)
result_told t xs m f l s (Some []) told short =
    let hit : Outcomes = when s.may_be_some (by_policy t.policy s (length t.rules)) in
    let missed : Outcomes = when s.may_be_none (default_outcomes (shape_of t.outputs).distinct xs t.outputs) in
    limited_covers (l || s.limit) (either_outcomes hit missed) (defaults t.outputs m)
    (either_other hit missed (defaults t.outputs m) (when_covers s.may_be_none (default_outcomes (shape_of t.outputs).distinct xs t.outputs) (defaults t.outputs m) told.first (defaults_told t.outputs xs m f)))
result_told t xs m f l s (Some (h ∷ hs)) told short =
    let hit : Outcomes = when s.may_be_some (by_policy t.policy s (length t.rules)) in
    let missed : Outcomes = when s.may_be_none (default_outcomes (shape_of t.outputs).distinct xs t.outputs) in
    limited_covers (l || s.limit) (either_outcomes hit missed) (policy_result t.policy (h ∷ hs))
    (either_one hit missed (policy_result t.policy (h ∷ hs)) (when_covers s.may_be_some (by_policy t.policy s (length t.rules)) (policy_result t.policy (h ∷ hs)) told.some (policy_told t.policy s (length t.rules) h hs told (short (h ∷ hs) refl))))

same_hits : (m : Bindings) (cs : List Column) (rs : List Rule) (ys : Option (List Bool)) → (ys >>= λ zs. each (hit_of cs m) (kept rs zs)) ≡ ((ys >>= λ zs. Some (kept rs zs)) >>= λ rules. each (hit_of cs m) rules)
same_hits m cs rs None = refl
same_hits m cs rs (Some zs) = refl

from_values : (t : Table) (xs : Scope) (m : Bindings) → Fits xs m → (s : Tally) → Narrows t.rules (column_outcomes xs t.inputs) (tally_rules (shape_of t.outputs) (column_outcomes xs t.inputs) xs t.rules) s
    → (values : Option (List Datum)) → InputsTold (column_outcomes xs t.inputs) values
    → covers (with_tally t xs (some_limit (column_outcomes xs t.inputs)) s)
    (outcome_from (result_from t m) ((values >>= λ vs. each (does_hit m vs) t.rules >>= λ answers. Some (kept t.rules answers)) >>= λ rules. each (hit_of t.outputs m) rules)) ≡ true
from_values t xs m f s narrows None told =
    or_left (some_limit (column_outcomes xs t.inputs) || s.limit) (either_outcomes (when s.may_be_some (by_policy t.policy s (length t.rules))) (when s.may_be_none (default_outcomes (shape_of t.outputs).distinct xs t.outputs))).limit
    (or_left (some_limit (column_outcomes xs t.inputs)) s.limit told)
from_values t xs m f s narrows (Some vs) told =
    let P : Option (List Hit) → Type 0 = λ found. covers (with_tally t xs (some_limit (column_outcomes xs t.inputs)) s) (outcome_from (result_from t m) found) ≡ true in
    let whole : Tally = tally_rules (shape_of t.outputs) (column_outcomes xs t.inputs) xs t.rules in
    subst P (same_hits m t.outputs t.rules (each (does_hit m vs) t.rules))
    (result_told t xs m f (some_limit (column_outcomes xs t.inputs)) s (hits_among m vs t.outputs t.rules)
    (narrowed_told t.rules t.outputs (column_outcomes xs t.inputs) m vs whole s narrows told
    (rules_told (shape_of t.outputs) (column_outcomes xs t.inputs) vs t.outputs xs m f told (λ r. gives_told t.outputs r xs m f) t.rules))
    (λ hs e. hits_short m t.outputs t.rules (each (does_hit m vs) t.rules) hs e))

pub table_sound : (t : Table) (xs : Scope) (s : Tally) → Narrows t.rules (column_outcomes xs t.inputs) (tally_rules (shape_of t.outputs) (column_outcomes xs t.inputs) xs t.rules) s → (m : Bindings) → Fits xs m
    → covers (with_tally t xs (some_limit (column_outcomes xs t.inputs)) s) (table_result t m) ≡ true
table_sound t xs s narrows m f = from_values t xs m f s narrows (values_of m t.inputs) (inputs_told t.inputs xs m f)

-- the same of what the code has
pub table_told : (t : Table) (xs : Scope) (os ps qs : List Outcomes) (whole found : Tally) (l : Bool) (o : Outcomes) → os ≡ column_outcomes xs t.inputs → ps ≡ os → qs ≡ os → whole ≡ tally_rules (shape_of t.outputs) os xs t.rules
    → (length ps ≡ length t.inputs → Narrows t.rules ps whole found) → l ≡ some_limit qs → o ≡ with_tally t xs l found → (m : Bindings) → Fits xs m → covers o (table_result t m) ≡ true
table_told t xs os ps qs whole found l o columns first second tally narrows limit is m f =
    let here : ps ≡ column_outcomes xs t.inputs = first ∙ columns in
    let long : length ps ≡ length t.inputs = ap length here ∙ same_length (λ e. outcomes e xs) t.inputs in
    let N : List Outcomes → Type 0 = λ cs. Narrows t.rules cs whole found in
    let W : Tally → Type 0 = λ w. Narrows t.rules (column_outcomes xs t.inputs) w found in
    let P : Outcomes → Type 0 = λ p. covers p (table_result t m) ≡ true in
    let Q : Bool → Type 0 = λ b. covers (with_tally t xs b found) (table_result t m) ≡ true in
    subst P (sym is)
    (subst Q (sym (limit ∙ ap some_limit (second ∙ columns)))
    (table_sound t xs found (subst W (tally ∙ ap (λ cs. tally_rules (shape_of t.outputs) cs xs t.rules) columns) (subst N here (narrows long))) m f))
