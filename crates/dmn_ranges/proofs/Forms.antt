-- Each form of an expression, from what is told of its parts.
use Rattle.std.proofs.Common.{◌≡◌, refl, ap, subst, ◌∙◌, [], ℕ, ℤ, pos, negsuc, ◌+ℤ◌, ◌-ℤ◌, Bool, true, false, ◌&&◌, ◌||◌, Option, None, Some, List, length, unsigned_abs, if◌then◌else◌, ◌+◌, ◌≤◌, arith}
use Rattle.std.specs.Prelude.{◌*ℤ◌, int_le, int_lt}
use Rattle.std.proofs.lemmas.Bool.Decides.{nat_tests}
use Rattle.std.proofs.lemmas.Int.{ints}
use Rattle.feel_value.proofs.Booleans.{both_true}
use Rattle.feel_value.specs.Datum.{Datum, null, boolean, number, text, list, context, Items, no_items, item, members_of}
use Rattle.feel_value.specs.Limits.{most_nodes, in_range, items_in_range, is_value}
use Rattle.feel_value.specs.Comparison.{equal, less}
use Rattle.feel_value.specs.Logic.{is_yes, and_of, or_of, truth_of, not_of, truth_datum}
use Rattle.feel_value.specs.Outcome.{held}
use Rattle.feel_value.specs.declared.feel.Outcome.{Outcome}
use Rattle.feel_value.specs.declared.feel.Outcome.TheVariants.{Is, Limit}
use Rattle.feel_text.specs.Constants.{expr_of_constant}
use Rattle.feel_value.specs.declared.logic.Truth.{Truth}
use Rattle.feel_value.specs.declared.logic.Truth.TheVariants.{Yes, No, Unknown}
use Rattle.feel_text.specs.Meaning as meaning
use Rattle.feel_text.specs.Meaning.{Bindings, den, with_value, with_values, of_number, modulo, modulo_of, is_zero, call_of, count_of, fold_of, path_of, operation, between_of, choice}
use Rattle.feel_text.specs.declared.expr.Operator.{Operator}
use Rattle.feel_text.specs.declared.expr.Operator.TheVariants as operator
use Rattle.feel_text.specs.declared.expr.Function.{Function}
use Rattle.feel_text.specs.declared.expr.Function.TheVariants as function
use Rattle.dmn_ranges.specs.Numbers.{absolute, remainder, has_divisor}
use Rattle.dmn_ranges.specs.Ranges.{inside, within, keeps, lies_in, covers, null_alone}
use Rattle.dmn_ranges.specs.Sizes.{larger}
use Rattle.dmn_ranges.specs.Steps.{everything, numbers_or_null, any_of_size, joined, is_other, is_other_than_list, given, limited, with_one, with_two, either_outcomes, when, numbers_given, worked_out, paired, arithmetic, negated, absolute_if, absolutes, some_number, divided, remainders, truths, opposite, and_truths, or_truths, less_truths, equal_truths, operated, between, inverted, summed, picked, counted, called, paths, natural, branches, point, outcomes}
use Rattle.dmn_ranges.specs.declared.bounded.Bounded.{Bounded}
use Rattle.dmn_ranges.specs.declared.interval.Interval.{Interval}
use Rattle.dmn_ranges.specs.declared.outcomes.Outcomes.{Outcomes}
use Rattle.dmn_ranges.specs.declared.range.Range.{Range}
use Rattle.dmn_ranges.specs.declared.size.Size.{Size}
use Rattle.dmn_ranges.specs.declared.truths.Truths.{Truths}
use Rattle.dmn_ranges.proofs.Comparisons.{others, less_told, equal_told}
use Rattle.dmn_ranges.proofs.FewTexts.{has_one, has_other}
use Rattle.dmn_ranges.proofs.Intervals.{Met, le_same, number_in_all, zero_below, sum_met, difference_met, product_met, absolute_met, zero_or_not, divisor_in, remainder_met, hull_one, hull_other}
use Rattle.dmn_ranges.proofs.Joins.{or_left, or_right, and_both, other_in, no_list_in, list_in, list_keeps, context_in, context_keeps}
use Rattle.dmn_ranges.proofs.Paths.{path_keeps}
use Rattle.dmn_ranges.proofs.Sizes.{keeps_one, keeps_other, kept_value, valued, count_kept}
use Rattle.dmn_ranges.proofs.TruthSets.{tells, opposite_told, and_told, or_told, truth_told, told_is, told_held}

-- ---- outcomes

pub limited_covers : (l : Bool) (o : Outcomes) (p : Outcome) → covers o p ≡ true → covers (limited l o) p ≡ true
limited_covers l o (Is d) h = h
limited_covers l o Limit h = or_right l o.limit h

pub with_one_covers : (o : Outcomes) (p : Outcome) (f : Range → Outcomes) (g : Datum → Outcome) → covers o p ≡ true → ((d : Datum) → lies_in o.range d ≡ true → covers (f o.range) (g d) ≡ true) → covers (with_one o f) (with_value p g) ≡ true
with_one_covers o (Is d) f g h k = limited_covers o.limit (f o.range) (g d) (k d h)
with_one_covers o Limit f g h k = or_left o.limit (f o.range).limit h

pub with_two_covers : (o p : Outcomes) (q r : Outcome) (f : Range → Range → Outcomes) (g : Datum → Datum → Outcome) → covers o q ≡ true → covers p r ≡ true
    → ((d e : Datum) → lies_in o.range d ≡ true → lies_in p.range e ≡ true → covers (f o.range p.range) (g d e) ≡ true) → covers (with_two o p f) (with_values q r g) ≡ true
with_two_covers o p (Is d) (Is e) f g h i k = limited_covers (o.limit || p.limit) (f o.range p.range) (g d e) (k d e h i)
with_two_covers o p (Is d) Limit f g h i k = or_left (o.limit || p.limit) (f o.range p.range).limit (or_right o.limit p.limit i)
with_two_covers o p Limit r f g h i k = or_left (o.limit || p.limit) (f o.range p.range).limit (or_left o.limit p.limit h)

pub joined_one : (a b : Range) (d : Datum) → lies_in a d ≡ true → lies_in (joined a b) d ≡ true
joined_one a b null h = or_left a.nulls b.nulls h
joined_one a b (boolean true) h = or_left a.trues b.trues h
joined_one a b (boolean false) h = or_left a.falses b.falses h
joined_one a b (number z) h = hull_one a.numbers b.numbers z h
joined_one a b (text s) h = has_one a.texts b.texts s h
joined_one a b (list ds) h = and_both (a.lists || b.lists) (keeps (larger a.size b.size) (list ds)) (or_left a.lists b.lists (list_in a ds h)) (keeps_one a.size b.size (list ds) (list_keeps a ds h))
joined_one a b (context es) h = and_both (a.contexts || b.contexts) (keeps (larger a.size b.size) (context es)) (or_left a.contexts b.contexts (context_in a es h)) (keeps_one a.size b.size (context es) (context_keeps a es h))

pub joined_other : (a b : Range) (d : Datum) → lies_in b d ≡ true → lies_in (joined a b) d ≡ true
joined_other a b null h = or_right a.nulls b.nulls h
joined_other a b (boolean true) h = or_right a.trues b.trues h
joined_other a b (boolean false) h = or_right a.falses b.falses h
joined_other a b (number z) h = hull_other a.numbers b.numbers z h
joined_other a b (text s) h = has_other a.texts b.texts s h
joined_other a b (list ds) h = and_both (a.lists || b.lists) (keeps (larger a.size b.size) (list ds)) (or_right a.lists b.lists (list_in b ds h)) (keeps_other a.size b.size (list ds) (list_keeps b ds h))
joined_other a b (context es) h = and_both (a.contexts || b.contexts) (keeps (larger a.size b.size) (context es)) (or_right a.contexts b.contexts (context_in b es h)) (keeps_other a.size b.size (context es) (context_keeps b es h))

pub either_one : (o p : Outcomes) (x : Outcome) → covers o x ≡ true → covers (either_outcomes o p) x ≡ true
either_one o p (Is d) h = joined_one o.range p.range d h
either_one o p Limit h = or_left o.limit p.limit h

pub either_other : (o p : Outcomes) (x : Outcome) → covers p x ≡ true → covers (either_outcomes o p) x ≡ true
either_other o p (Is d) h = joined_other o.range p.range d h
either_other o p Limit h = or_right o.limit p.limit h

pub when_covers : (b : Bool) (o : Outcomes) (x : Outcome) → b ≡ true → covers o x ≡ true → covers (when b o) x ≡ true
when_covers true o x h k = k
when_covers false o x h k = cc

pub branches_covers : (t : Truths) (v : Truth) (o p : Outcomes) (x y : Outcome) → tells t v ≡ true → covers o x ≡ true → covers p y ≡ true → covers (branches t o p) (choice (is_yes v) x y) ≡ true
branches_covers t Yes o p x y h k l = either_one (when t.yes o) (when (t.no || t.unknown) p) x (when_covers t.yes o x h k)
branches_covers t No o p x y h k l = either_other (when t.yes o) (when (t.no || t.unknown) p) y (when_covers (t.no || t.unknown) p y (or_left t.no t.unknown h) l)
branches_covers t Unknown o p x y h k l = either_other (when t.yes o) (when (t.no || t.unknown) p) y (when_covers (t.no || t.unknown) p y (or_right t.no t.unknown h) l)

-- ---- numbers

held_by : (o : Outcomes) (z : ℤ) (t : Bool) → (t ≡ true → within o.range.numbers z ≡ true) → (t ≡ false → o.limit ≡ true) → covers o (if (t && true) && true then Is (number z) else Limit) ≡ true
held_by o z true h k = h refl
held_by o z false h k = k refl

pub number_covers : (o : Outcomes) (z : ℤ) → (in_range z ≡ true → within o.range.numbers z ≡ true) → (in_range z ≡ false → o.limit ≡ true) → covers o (held (number z)) ≡ true
number_covers o z h k = held_by o z (in_range z) h k

pub met_covers : (n : Bool) (b : Bounded) (z : ℤ) → Met b z → covers (numbers_given n (Some b)) (held (number z)) ≡ true
met_covers n b z met = number_covers (numbers_given n (Some b)) z met.0 met.1

pub null_covers : (n : Bool) (o : Option Bounded) → n ≡ true → covers (numbers_given n o) (held null) ≡ true
null_covers n None h = h
null_covers n (Some b) h = h

pair_covers : (n : Bool) (op : Operator) (g : ℤ → ℤ → ℤ) (o p : Option Interval) (x y : ℤ)
    → ((i j : Interval) (x y : ℤ) → inside i x ≡ true → inside j y ≡ true → Met (worked_out op i j) (g x y))
    → within o x ≡ true → within p y ≡ true → covers (numbers_given n (paired op o p)) (held (number (g x y))) ≡ true
pair_covers n op g None p x y f h k = cc
pair_covers n op g (Some i) None x y f h k = cc
pair_covers n op g (Some i) (Some j) x y f h k = met_covers n (worked_out op i j) (g x y) (f i j x y h k)

arithmetic_covers : (op : Operator) (g : ℤ → ℤ → ℤ) → ((i j : Interval) (x y : ℤ) → inside i x ≡ true → inside j y ≡ true → Met (worked_out op i j) (g x y))
    → (a b : Range) (d e : Datum) → lies_in a d ≡ true → lies_in b e ≡ true → covers (arithmetic op a b) (held (meaning.arithmetic g d e)) ≡ true
arithmetic_covers op g f a b (number x) (number y) h k = pair_covers (is_other a || is_other b) op g a.numbers b.numbers x y f h k
arithmetic_covers op g f a b d e h k = null_covers (is_other a || is_other b) (paired op a.numbers b.numbers) (others a b d e h k refl)

pub negated_covers : (a : Range) (d : Datum) → lies_in a d ≡ true → covers (negated a) (held (of_number (λ x. number (pos 0 -ℤ x)) d)) ≡ true
negated_covers a (number x) h =
    pair_covers (is_other a) operator.Subtract (λ x y. x -ℤ y) (Some (record { low = pos 0; high = pos 0 })) a.numbers (pos 0) x (λ i j x y p q. difference_met i j x y p q) refl h
negated_covers a d h = null_covers (is_other a) (paired operator.Subtract (Some (record { low = pos 0; high = pos 0 })) a.numbers) (other_in a d h refl)

absolute_covers : (n : Bool) (o : Option Interval) (x : ℤ) → within o x ≡ true → covers (numbers_given n (absolute_if o)) (held (number (pos (unsigned_abs x)))) ≡ true
absolute_covers n None x h = cc
absolute_covers n (Some i) x h = met_covers n (absolute i) (pos (unsigned_abs x)) (absolute_met i x h)

absolutes_cover : (a : Range) (d : Datum) → lies_in a d ≡ true → covers (absolutes a) (held (of_number meaning.absolute d)) ≡ true
absolutes_cover a (number x) h = absolute_covers (is_other a) a.numbers x h
absolutes_cover a d h = null_covers (is_other a) (absolute_if a.numbers) (other_in a d h refl)

some_number_covers : (z : ℤ) → covers some_number (held (number z)) ≡ true
some_number_covers z = number_covers some_number z (number_in_all z) (λ p. refl)

divided_covers : (n : Bool) (t : Bool) (b : Bounded) (z : ℤ) → t ≡ true → Met b z → covers (numbers_given n (if t then Some b else None)) (held (number z)) ≡ true
divided_covers n true b z e met = met_covers n b z met
divided_covers n false b z e met = cc

left_covers : (n : Bool) (o p : Option Interval) (x y : ℤ) → within o x ≡ true → within p y ≡ true → is_zero y ≡ false → covers (numbers_given n (divided o p)) (held (number (x -ℤ (y *ℤ meaning.floor_quotient x y)))) ≡ true
left_covers n None p x y h k r = cc
left_covers n (Some i) None x y h k r = cc
left_covers n (Some i) (Some j) x y h k r = divided_covers n (has_divisor j) (remainder j) (x -ℤ (y *ℤ meaning.floor_quotient x y)) (divisor_in j y k r) (remainder_met j x y k r)

zero_within : (o : Option Interval) (y : ℤ) → within o y ≡ true → is_zero y ≡ true → within o (pos 0) ≡ true
zero_within o y h r = let P : ℤ → Type 0 = λ z. within o z ≡ true in subst P (zero_or_not y r) h

two_numbers : (l : Bool) (o p : Option Interval) (x y : ℤ) (t : Bool) → is_zero y ≡ t → within o x ≡ true → within p y ≡ true
    → covers (numbers_given (l || within p (pos 0)) (divided o p)) (held (if t then null else number (x -ℤ (y *ℤ meaning.floor_quotient x y)))) ≡ true
two_numbers l o p x y true r h k = null_covers (l || within p (pos 0)) (divided o p) (or_right l (within p (pos 0)) (zero_within p y k r))
two_numbers l o p x y false r h k = left_covers (l || within p (pos 0)) o p x y h k r

pub remainders_cover : (a b : Range) (d e : Datum) → lies_in a d ≡ true → lies_in b e ≡ true → covers (remainders a b) (held (modulo_of d e)) ≡ true
remainders_cover a b (number x) (number y) h k = two_numbers (is_other a || is_other b) a.numbers b.numbers x y (is_zero y) refl h k
remainders_cover a b d e h k =
    null_covers ((is_other a || is_other b) || within b.numbers (pos 0)) (divided a.numbers b.numbers) (or_left (is_other a || is_other b) (within b.numbers (pos 0)) (others a b d e h k refl))

natural_by : (n : ℕ) (t : Bool) → covers (if t then given (numbers_or_null false (Some (record { low = pos n; high = pos n }))) else record { range = numbers_or_null false None; limit = true }) (if (t && true) && true then Is (number (pos n)) else Limit) ≡ true
natural_by n true = and_both (int_le (pos n) (pos n)) (int_le (pos n) (pos n)) (le_same (pos n)) (le_same (pos n))
natural_by n false = refl

pub natural_covers : (n : ℕ) → covers (natural n) (held (number (pos n))) ≡ true
natural_covers n = natural_by n (in_range (pos n))

-- ---- operators

pub operated_covers : (op : Operator) (a b : Range) (d e : Datum) → lies_in a d ≡ true → lies_in b e ≡ true → covers (operated op a b) (held (operation op d e)) ≡ true
operated_covers operator.Or a b d e h k = told_held (or_truths (truths a) (truths b)) (or_of (truth_of d) (truth_of e)) (or_told (truths a) (truths b) (truth_of d) (truth_of e) (truth_told a d h) (truth_told b e k))
operated_covers operator.And a b d e h k = told_held (and_truths (truths a) (truths b)) (and_of (truth_of d) (truth_of e)) (and_told (truths a) (truths b) (truth_of d) (truth_of e) (truth_told a d h) (truth_told b e k))
operated_covers operator.Equal a b d e h k = told_held (equal_truths a b) (equal d e) (equal_told a b d e h k)
operated_covers operator.NotEqual a b d e h k = told_held (opposite (equal_truths a b)) (not_of (equal d e)) (opposite_told (equal_truths a b) (equal d e) (equal_told a b d e h k))
operated_covers operator.Less a b d e h k = told_held (less_truths a b) (less d e) (less_told a b d e h k)
operated_covers operator.LessEqual a b d e h k = told_held (opposite (less_truths b a)) (not_of (less e d)) (opposite_told (less_truths b a) (less e d) (less_told b a e d k h))
operated_covers operator.Greater a b d e h k = told_held (less_truths b a) (less e d) (less_told b a e d k h)
operated_covers operator.GreaterEqual a b d e h k = told_held (opposite (less_truths a b)) (not_of (less d e)) (opposite_told (less_truths a b) (less d e) (less_told a b d e h k))
operated_covers operator.Add a b d e h k = arithmetic_covers operator.Add (λ x y. x +ℤ y) (λ i j x y p q. sum_met i j x y p q) a b d e h k
operated_covers operator.Subtract a b d e h k = arithmetic_covers operator.Subtract (λ x y. x -ℤ y) (λ i j x y p q. difference_met i j x y p q) a b d e h k
operated_covers operator.Multiply a b d e h k = arithmetic_covers operator.Multiply (λ x y. x *ℤ y) (λ i j x y p q. product_met i j x y p q) a b d e h k

pub between_covers : (a low high : Range) (d l u : Datum) → lies_in a d ≡ true → lies_in low l ≡ true → lies_in high u ≡ true → covers (between a low high) (Is (between_of d l u)) ≡ true
between_covers a low high d l u h i k =
    told_is (and_truths (opposite (less_truths a low)) (opposite (less_truths high a))) (and_of (not_of (less d l)) (not_of (less u d)))
    (and_told (opposite (less_truths a low)) (opposite (less_truths high a)) (not_of (less d l)) (not_of (less u d))
    (opposite_told (less_truths a low) (less d l) (less_told a low d l h i))
    (opposite_told (less_truths high a) (less u d) (less_told high a u d k h)))

pub inverted_covers : (a : Range) (d : Datum) → lies_in a d ≡ true → covers (inverted a) (Is (truth_datum (not_of (truth_of d)))) ≡ true
inverted_covers a d h = told_is (opposite (truths a)) (not_of (truth_of d)) (opposite_told (truths a) (truth_of d) (truth_told a d h))

-- ---- functions, paths and lists

if_lists : (t : Bool) (o : Outcomes) (p : Outcome) → t ≡ true → covers o p ≡ true → covers (if t then o else given null_alone) p ≡ true
if_lists true o p h k = k
if_lists false o p h k = cc

if_null : (t : Bool) (o : Outcomes) → covers o (held null) ≡ true → covers (if t then o else given null_alone) (held null) ≡ true
if_null true o h = h
if_null false o h = refl

fold_number : (f : ℤ → ℤ → ℤ) (x : ℤ) (ds : Items) → covers some_number (held (meaning.folded f x ds)) ≡ true
fold_number f x no_items = some_number_covers x
fold_number f x (item (number y) ds) = fold_number f (f x y) ds
fold_number f x (item null ds) = refl
fold_number f x (item (boolean b) ds) = refl
fold_number f x (item (text s) ds) = refl
fold_number f x (item (list es) ds) = refl
fold_number f x (item (context es) ds) = refl

fold_list : (f : ℤ → ℤ → ℤ) (ds : Items) → covers some_number (held (fold_of f (list ds))) ≡ true
fold_list f no_items = refl
fold_list f (item (number x) ds) = fold_number f x ds
fold_list f (item null ds) = refl
fold_list f (item (boolean b) ds) = refl
fold_list f (item (text s) ds) = refl
fold_list f (item (list es) ds) = refl
fold_list f (item (context es) ds) = refl

summed_covers : (a : Range) (d : Datum) → lies_in a d ≡ true → covers (summed a) (held (fold_of (λ x y. x +ℤ y) d)) ≡ true
summed_covers a (list ds) h = if_lists a.lists some_number (held (fold_of (λ x y. x +ℤ y) (list ds))) (list_in a ds h) (fold_list (λ x y. x +ℤ y) ds)
summed_covers a d h = if_null a.lists some_number refl

-- a number of the list, or null
abbrev some_pick : Outcomes
some_pick = given (numbers_or_null true (Some everything))

in_and_out : {P : Type 0} (z : ℤ) → in_range z ≡ true → in_range z ≡ false → P
in_and_out z h k = cc

pick_number : (f : ℤ → ℤ → ℤ) → ((x y : ℤ) → in_range x ≡ true → in_range y ≡ true → in_range (f x y) ≡ true) → (x : ℤ) (ds : Items) → in_range x ≡ true → items_in_range ds ≡ true → covers some_pick (held (meaning.folded f x ds)) ≡ true
pick_number f closed x no_items h k = number_covers some_pick x (number_in_all x) (in_and_out x h)
pick_number f closed x (item (number y) ds) h k = let p = both_true (in_range y) (items_in_range ds) k in pick_number f closed (f x y) ds (closed x y h p.0) p.1
pick_number f closed x (item null ds) h k = refl
pick_number f closed x (item (boolean b) ds) h k = refl
pick_number f closed x (item (text s) ds) h k = refl
pick_number f closed x (item (list es) ds) h k = refl
pick_number f closed x (item (context es) ds) h k = refl

pick_list : (f : ℤ → ℤ → ℤ) → ((x y : ℤ) → in_range x ≡ true → in_range y ≡ true → in_range (f x y) ≡ true) → (ds : Items) → items_in_range ds ≡ true → covers some_pick (held (fold_of f (list ds))) ≡ true
pick_list f closed no_items k = refl
pick_list f closed (item (number x) ds) k = let p = both_true (in_range x) (items_in_range ds) k in pick_number f closed x ds p.0 p.1
pick_list f closed (item null ds) k = refl
pick_list f closed (item (boolean b) ds) k = refl
pick_list f closed (item (text s) ds) k = refl
pick_list f closed (item (list es) ds) k = refl
pick_list f closed (item (context es) ds) k = refl

picked_covers : (f : ℤ → ℤ → ℤ) → ((x y : ℤ) → in_range x ≡ true → in_range y ≡ true → in_range (f x y) ≡ true) → (a : Range) (d : Datum) → lies_in a d ≡ true → covers (picked a) (held (fold_of f d)) ≡ true
picked_covers f closed a (list ds) h =
    if_lists a.lists some_pick (held (fold_of f (list ds))) (list_in a ds h) (pick_list f closed ds (valued (list ds) (kept_value a.size (list ds) (list_keeps a ds h))).ranged)
picked_covers f closed a d h = if_null a.lists some_pick refl

one_of : (t : Bool) (x y : ℤ) → in_range x ≡ true → in_range y ≡ true → in_range (if t then y else x) ≡ true
one_of true x y h k = k
one_of false x y h k = h

abbrev count_in : Range → Outcomes
count_in a = given (numbers_or_null (is_other_than_list a) (Some (record { low = pos 0; high = pos a.size.nodes -ℤ pos 1 })))

count_below : (n m : ℕ) → 1 + n ≤ m → int_le (pos n) (pos m -ℤ pos 1) ≡ true
count_below n m h = grind (arith, ints)

count_in_range : (n : ℕ) → n ≤ most_nodes → in_range (pos n) ≡ true
count_in_range n h = grind (arith, nat_tests)

counted_covers : (a : Range) (d : Datum) → lies_in a d ≡ true → covers (counted a) (held (count_of d)) ≡ true
counted_covers a (list ds) h =
    let n : ℕ = length (members_of ds) in
    let few = count_kept a.size ds (list_keeps a ds h) in
    if_lists a.lists (count_in a) (held (count_of (list ds))) (list_in a ds h)
    (number_covers (count_in a) (pos n) (λ p. and_both (int_le (pos 0) (pos n)) (int_le (pos n) (pos a.size.nodes -ℤ pos 1)) (zero_below n) (count_below n a.size.nodes few.0)) (in_and_out (pos n) (count_in_range n few.1)))
counted_covers a d h = if_null a.lists (count_in a) (no_list_in a d h refl)

pub called_covers : (f : Function) (a : Range) (d : Datum) → lies_in a d ≡ true → covers (called f a) (held (call_of f d)) ≡ true
called_covers function.Abs a d h = absolutes_cover a d h
called_covers function.Sum a d h = summed_covers a d h
called_covers function.Min a d h = picked_covers meaning.least (λ x y p q. one_of (int_lt y x) x y p q) a d h
called_covers function.Max a d h = picked_covers meaning.greatest (λ x y p q. one_of (int_lt x y) x y p q) a d h
called_covers function.Count a d h = counted_covers a d h

held_if : (t : Bool) (o : Outcomes) (d : Datum) → t ≡ true → lies_in o.range d ≡ true → covers o (if t then Is d else Limit) ≡ true
held_if true o d e h = h
held_if false o d e h = cc

ranged : (t : Bool) → ((t && true) && true) ≡ true → t ≡ true
ranged true h = refl
ranged false h = cc

kept_in_any : (s : Size) (d : Datum) → keeps s d ≡ true → lies_in (any_of_size s) d ≡ true
kept_in_any s null h = refl
kept_in_any s (boolean true) h = refl
kept_in_any s (boolean false) h = refl
kept_in_any s (number z) h = number_in_all z (ranged (in_range z) (kept_value s (number z) h))
kept_in_any s (text t) h = refl
kept_in_any s (list ds) h = h
kept_in_any s (context es) h = h

any_covers : (s : Size) (d : Datum) → keeps s d ≡ true → covers (given (any_of_size s)) (held d) ≡ true
any_covers s d h = held_if (is_value d) (given (any_of_size s)) d (kept_value s d h) (kept_in_any s d h)

pub paths_cover : (name : List ℕ) (a : Range) (d : Datum) → lies_in a d ≡ true → covers (paths a) (held (path_of name d)) ≡ true
paths_cover name a (list ds) h =
    if_lists (a.contexts || a.lists) (given (any_of_size a.size)) (held (path_of name (list ds))) (or_right a.contexts a.lists (list_in a ds h)) (any_covers a.size (path_of name (list ds)) (path_keeps name a.size (list ds) (list_keeps a ds h)))
paths_cover name a (context es) h =
    if_lists (a.contexts || a.lists) (given (any_of_size a.size)) (held (path_of name (context es))) (or_left a.contexts a.lists (context_in a es h)) (any_covers a.size (path_of name (context es)) (path_keeps name a.size (context es) (context_keeps a es h)))
paths_cover name a d h = if_null (a.contexts || a.lists) (given (any_of_size a.size)) refl

-- ---- literals

point_by : (n : ℕ) (t : Bool) → (if (t && true) && true then Is (number (pos n)) else Limit) ≡ Is (number (pos n)) → given (point (pos n)) ≡ (if t then given (point (pos n)) else record { range = numbers_or_null false None; limit = true })
point_by n true h = refl
point_by n false h = cc

-- a number that its literal has
pub literal_number : (d : Datum) (z : ℤ) → ((m : Bindings) → den (expr_of_constant d) m ≡ Is d) → number z ≡ d → given (point z) ≡ outcomes (expr_of_constant d) []
literal_number null z h e = cc
literal_number (boolean b) z h e = cc
literal_number (number (pos n)) z h e =
    let same : z ≡ pos n = cc in
    ap (λ (y : ℤ). given (point y)) same ∙ point_by n (in_range (pos n)) (h [])
literal_number (number (negsuc n)) z h e = let wrong : Is null ≡ Is (number (negsuc n)) = h [] in cc
literal_number (text s) z h e = cc
literal_number (list ds) z h e = cc
literal_number (context es) z h e = cc
