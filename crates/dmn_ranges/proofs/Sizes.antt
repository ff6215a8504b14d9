-- How large values are that are formed of parts, and what is told of them.
use Rattle.std.proofs.Common.{◌≡◌, refl, ℕ, suc, ◌+◌, ◌*◌, ◌≤◌, ◌<◌, max, ℤ, pos, negsuc, length, Bool, true, false, not, ◌&&◌, Option, None, Some, if◌then◌else◌, arith}
use Rattle.std.specs.Prelude.{nat_le, nat_lt, int_le}
use Rattle.std.proofs.Math.Nat.{max-le}
use Rattle.std.proofs.lemmas.Bool.Decides.{nat_tests}
use Rattle.std.proofs.lemmas.Int.{ints}
use Rattle.std.proofs.lemmas.Nat.{mul-le}
use Rattle.feel_value.proofs.Booleans.{both_true}
use Rattle.feel_value.specs.Datum.{Datum, null, boolean, number, text, list, context, Items, no_items, item, members_of, Entries}
use Rattle.feel_value.specs.Limits.{most_nodes, most_depth, in_range, nodes, items_nodes, entries_nodes, depth, items_depth, entries_depth, numbers_in_range, items_in_range, entries_in_range, keeps_size, keeps_limits, names_differ, names_distinct, items_distinct, entries_distinct, is_value}
use Rattle.feel_value.specs.Outcome.{held}
use Rattle.feel_value.specs.declared.feel.Outcome.TheVariants.{Is, Limit}
use Rattle.dmn_ranges.specs.Numbers.{least_number, most_number}
use Rattle.dmn_ranges.specs.Ranges.{within, keeps, lies_in, covers}
use Rattle.dmn_ranges.specs.Sizes.{no_size, any_size, more, larger, capped, beside, times, fits, around}
use Rattle.dmn_ranges.specs.Steps.{are_numbers, size_of, listed, named_parts}
use Rattle.dmn_ranges.specs.declared.interval.Interval.{Interval}
use Rattle.dmn_ranges.specs.declared.range.Range.{Range}
use Rattle.dmn_ranges.specs.declared.size.Size.{Size}

-- ---- numbers

at_most : (a b : ℕ) → nat_le a b ≡ true → a ≤ b
at_most a b h = grind (arith, nat_tests)

is_at_most : (a b : ℕ) → a ≤ b → nat_le a b ≡ true
is_at_most a b h = grind (arith, nat_tests)

less_than : (a b : ℕ) → nat_lt a b ≡ true → a < b
less_than a b h = grind (arith, nat_tests)

is_less : (a b : ℕ) → a < b → nat_lt a b ≡ true
is_less a b h = grind (arith, nat_tests)

no_less : (a b : ℕ) → nat_lt a b ≡ false → b ≤ a
no_less a b h = grind (arith, nat_tests)

along_left : (a b c : ℕ) → a ≡ b → a ≤ c → b ≤ c
along_left a b c e h = omega (arith, e, h)

pub along_right : (a b c : ℕ) → a ≡ b → b ≤ c → a ≤ c
along_right a b c e h = omega (arith, e, h)

pub at_most_along : (a b c : ℕ) → a ≤ b → b ≤ c → a ≤ c
at_most_along a b c h k = omega (arith, h, k)

pub one_more_within : (a b : ℕ) → a ≤ b → 1 + a ≤ 1 + b
one_more_within a b h = omega (arith, h)

pub both_within : (a b c d : ℕ) → a ≤ c → b ≤ d → a + b ≤ c + d
both_within a b c d h k = omega (arith, h, k)

more_by : (t : Bool) (a b : ℕ) → nat_lt a b ≡ t → (a ≤ (if t then b else a)) × (b ≤ (if t then b else a))
more_by true a b e = let l = less_than a b e in (omega (arith, l), omega arith)
more_by false a b e = let l = no_less a b e in (omega arith, omega (arith, l))

pub more_one : (a b : ℕ) → a ≤ more a b
more_one a b = (more_by (nat_lt a b) a b refl).0

pub more_other : (a b : ℕ) → b ≤ more a b
more_other a b = (more_by (nat_lt a b) a b refl).1

capped_by : (t : Bool) (n : ℕ) → (if t then n else most_nodes) < most_nodes → (if t then n else most_nodes) ≡ n
capped_by true n h = refl
capped_by false n h = absurd (omega (arith, h))

-- below the cap nothing was cut off
capped_is : (n : ℕ) → capped n < most_nodes → capped n ≡ n
capped_is n h = capped_by (nat_lt n most_nodes) n h

-- ---- the parts of a test

pub kept_value : (s : Size) (d : Datum) → keeps s d ≡ true → is_value d ≡ true
kept_value s d h = (both_true (is_value d) (nat_le (nodes d) s.nodes && nat_le (depth d) s.depth) h).0

pub kept_sizes : (s : Size) (d : Datum) → keeps s d ≡ true → (nodes d ≤ s.nodes) × (depth d ≤ s.depth)
kept_sizes s d h =
    let p = both_true (nat_le (nodes d) s.nodes) (nat_le (depth d) s.depth) ((both_true (is_value d) (nat_le (nodes d) s.nodes && nat_le (depth d) s.depth) h).1) in
    (at_most (nodes d) s.nodes p.0, at_most (depth d) s.depth p.1)

all_true : (a b : Bool) → a ≡ true → b ≡ true → (a && b) ≡ true
all_true true b h k = k
all_true false b h k = cc

pub is_kept : (s : Size) (d : Datum) → is_value d ≡ true → nodes d ≤ s.nodes → depth d ≤ s.depth → keeps s d ≡ true
is_kept s d v n k = all_true (is_value d) (nat_le (nodes d) s.nodes && nat_le (depth d) s.depth) v (all_true (nat_le (nodes d) s.nodes) (nat_le (depth d) s.depth) (is_at_most (nodes d) s.nodes n) (is_at_most (depth d) s.depth k))

pub record Valued (d : Datum) : Type 0 where
  pub ranged : numbers_in_range d ≡ true
  pub named : names_distinct d ≡ true
  pub few : nodes d ≤ most_nodes
  pub flat : depth d ≤ most_depth

pub valued : (d : Datum) → is_value d ≡ true → Valued d
valued d h =
    let p = both_true (keeps_limits d) (names_distinct d) h in
    let q = both_true (numbers_in_range d) (keeps_size d) p.0 in
    let r = both_true (nat_le (depth d) most_depth) (nat_le (nodes d) most_nodes) q.1 in record {
      ranged = q.0;
      named = p.1;
      few = at_most (nodes d) most_nodes r.1;
      flat = at_most (depth d) most_depth r.0;
    }

pub is_valued : (d : Datum) → numbers_in_range d ≡ true → names_distinct d ≡ true → nodes d ≤ most_nodes → depth d ≤ most_depth → is_value d ≡ true
is_valued d r n f k =
    all_true (keeps_limits d) (names_distinct d) (all_true (numbers_in_range d) (keeps_size d) r (all_true (nat_le (depth d) most_depth) (nat_le (nodes d) most_nodes) (is_at_most (depth d) most_depth k) (is_at_most (nodes d) most_nodes f))) n

pub any_keeps : (d : Datum) → is_value d ≡ true → keeps any_size d ≡ true
any_keeps d h = let v = valued d h in is_kept any_size d h v.few v.flat

pub keeps_one : (s t : Size) (d : Datum) → keeps s d ≡ true → keeps (larger s t) d ≡ true
keeps_one s t d h =
    let p = kept_sizes s d h in
    is_kept (larger s t) d (kept_value s d h) (at_most_along (nodes d) s.nodes (more s.nodes t.nodes) p.0 (more_one s.nodes t.nodes)) (at_most_along (depth d) s.depth (more s.depth t.depth) p.1 (more_one s.depth t.depth))

pub keeps_other : (s t : Size) (d : Datum) → keeps t d ≡ true → keeps (larger s t) d ≡ true
keeps_other s t d h =
    let p = kept_sizes t d h in
    is_kept (larger s t) d (kept_value t d h) (at_most_along (nodes d) t.nodes (more s.nodes t.nodes) p.0 (more_other s.nodes t.nodes)) (at_most_along (depth d) t.depth (more s.depth t.depth) p.1 (more_other s.depth t.depth))

-- ---- parts

-- what parts keep, of which it is said whether their numbers are in range and their names distinct, how many nodes they have, and how
-- deep they are
pub record Kept (numbers names : Bool) (n k : ℕ) (s : Size) : Type 0 where
  pub ranged : numbers ≡ true
  pub named : names ≡ true
  pub few : n ≤ s.nodes
  pub flat : k ≤ s.depth

abbrev pub Fit : Bool → Bool → ℕ → ℕ → Size → Type 0
Fit numbers names n k s = fits s ≡ true → Kept numbers names n k s

-- a value, unless the size is past
abbrev pub PartFits : Size → Datum → Type 0
PartFits s d = Fit (numbers_in_range d) (names_distinct d) (nodes d) (depth d) s

abbrev pub ItemsFit : Size → Items → Type 0
ItemsFit s ds = Fit (items_in_range ds) (items_distinct ds) (items_nodes ds) (items_depth ds) s

abbrev pub EntriesFit : Size → Entries → Type 0
EntriesFit s es = Fit (entries_in_range es) (entries_distinct es) (entries_nodes es) (entries_depth es) s

fits_nodes : (s : Size) → fits s ≡ true → s.nodes < most_nodes
fits_nodes s h = less_than s.nodes most_nodes (both_true (nat_lt s.nodes most_nodes) (nat_lt s.depth most_depth) h).0

fits_depth : (s : Size) → fits s ≡ true → s.depth < most_depth
fits_depth s h = less_than s.depth most_depth (both_true (nat_lt s.nodes most_nodes) (nat_lt s.depth most_depth) h).1

do_fit : (s : Size) → s.nodes < most_nodes → s.depth < most_depth → fits s ≡ true
do_fit s n k = all_true (nat_lt s.nodes most_nodes) (nat_lt s.depth most_depth) (is_less s.nodes most_nodes n) (is_less s.depth most_depth k)

-- ---- a value as a part

capped_if : (t : Bool) (n : ℕ) → (if t then n else most_nodes) < most_nodes → (t ≡ true) × ((if t then n else most_nodes) ≡ n)
capped_if true n h = (refl, refl)
capped_if false n h = absurd (omega (arith, h))

uncapped : (a b c : ℕ) → a ≤ b → c ≡ b → a ≤ c
uncapped a b c h e = omega (arith, h, e)

-- where the size isn't past, the numbers are in range, and a value has a node at least
scalar_part : (r : Range) (d : Datum) → nodes d ≡ 1 → depth d ≡ 1 → names_distinct d ≡ true → (are_numbers r.numbers ≡ true → numbers_in_range d ≡ true) → PartFits (size_of r) d
scalar_part r d one flat named ranged h =
    let p = capped_if (are_numbers r.numbers) (more r.size.nodes 1) (fits_nodes (size_of r) h) in
    record {
      ranged = ranged p.0;
      named = named;
      few = uncapped (nodes d) (more r.size.nodes 1) (size_of r).nodes (along_right (nodes d) 1 (more r.size.nodes 1) one (more_other r.size.nodes 1)) p.1;
      flat = along_right (depth d) 1 (more r.size.depth 1) flat (more_other r.size.depth 1);
    }

kept_part : (r : Range) (d : Datum) → keeps r.size d ≡ true → PartFits (size_of r) d
kept_part r d kept h =
    let p = capped_if (are_numbers r.numbers) (more r.size.nodes 1) (fits_nodes (size_of r) h) in
    let v = valued d (kept_value r.size d kept) in
    let q = kept_sizes r.size d kept in
    record {
      ranged = v.ranged;
      named = v.named;
      few = uncapped (nodes d) (more r.size.nodes 1) (size_of r).nodes (at_most_along (nodes d) r.size.nodes (more r.size.nodes 1) q.0 (more_one r.size.nodes 1)) p.1;
      flat = at_most_along (depth d) r.size.depth (more r.size.depth 1) q.1 (more_one r.size.depth 1);
    }

in_range_between : (z : ℤ) → int_le least_number z ≡ true → int_le z most_number ≡ true → in_range z ≡ true
in_range_between (pos n) h k = grind (arith, ints, nat_tests)
in_range_between (negsuc n) h k = grind (arith, ints, nat_tests)

le_along : (a b c : ℤ) → int_le a b ≡ true → int_le b c ≡ true → int_le a c ≡ true
le_along a b c h k = grind (arith, ints)

pub number_ranged : (o : Option Interval) (z : ℤ) → within o z ≡ true → are_numbers o ≡ true → in_range z ≡ true
number_ranged None z h k = cc
number_ranged (Some i) z h k =
    let p = both_true (int_le i.low z) (int_le z i.high) h in
    let q = both_true (int_le least_number i.low) (int_le i.high most_number) k in
    in_range_between z (le_along least_number i.low z q.0 p.0) (le_along z i.high most_number p.1 q.1)

-- a value of the range is a part of its size
pub part_fits : (r : Range) (d : Datum) → lies_in r d ≡ true → PartFits (size_of r) d
part_fits r null h = scalar_part r null refl refl refl (λ e. refl)
part_fits r (boolean b) h = scalar_part r (boolean b) refl refl refl (λ e. refl)
part_fits r (number z) h = scalar_part r (number z) refl refl refl (number_ranged r.numbers z h)
part_fits r (text s) h = scalar_part r (text s) refl refl refl (λ e. refl)
part_fits r (list ds) h = kept_part r (list ds) (both_true r.lists (keeps r.size (list ds)) h).1
part_fits r (context es) h = kept_part r (context es) (both_true r.contexts (keeps r.size (context es)) h).1

-- ---- one part before others

-- what is told of parts, behind parts of a size
pub record Behind (a : Size) (numbers names : Bool) (n k : ℕ) (s : Size) : Type 0 where
  pub before : fits a ≡ true
  pub ranged : numbers ≡ true
  pub named : names ≡ true
  pub few : a.nodes + n ≤ s.nodes
  pub deep : a.depth ≤ s.depth
  pub flat : k ≤ s.depth

abbrev pub FitBehind : Size → Bool → Bool → ℕ → ℕ → Size → Type 0
FitBehind a numbers names n k s = fits s ≡ true → Behind a numbers names n k s

abbrev pub ItemsBehind : Size → Size → Items → Type 0
ItemsBehind a s ds = FitBehind a (items_in_range ds) (items_distinct ds) (items_nodes ds) (items_depth ds) s

abbrev pub EntriesBehind : Size → Size → Entries → Type 0
EntriesBehind a s es = FitBehind a (entries_in_range es) (entries_distinct es) (entries_nodes es) (entries_depth es) s

itself : (n : ℕ) → n + 0 ≤ n
itself n = omega arith

pub same : (n : ℕ) → n ≤ n
same n = omega arith

pub least_of : (n : ℕ) → 0 ≤ n
least_of n = omega arith

from_none : (n m : ℕ) → 0 + n ≤ m → n ≤ m
from_none n m h = omega (arith, h)

pub none_behind : (a : Size) → FitBehind a true true 0 0 a
none_behind a h = record { before = h; ranged = refl; named = refl; few = itself a.nodes; deep = same a.depth; flat = least_of a.depth }

below_along : (a b c : ℕ) → a ≤ b → b < c → a < c
below_along a b c h k = omega (arith, h, k)

left_below : (a b c s : ℕ) → s ≡ a + b → s < c → a < c
left_below a b c s e h = omega (arith, e, h)

right_below : (a b c s : ℕ) → s ≡ a + b → s < c → b < c
right_below a b c s e h = omega (arith, e, h)

three_within : (a b n m t s : ℕ) → s ≡ a + b → n ≤ b → s + m ≤ t → a + (n + m) ≤ t
three_within a b n m t s e h k = omega (arith, e, h, k)

pub more_behind : (a s t : Size) (numbers names others_numbers others_names : Bool) (n k m l : ℕ) → Fit numbers names n k s → FitBehind (beside a s) others_numbers others_names m l t
    → FitBehind a (numbers && others_numbers) (names && others_names) (n + m) (max k l) t
more_behind a s t numbers names others_numbers others_names n k m l part rest h =
    let b = rest h in
    let wide : capped (a.nodes + s.nodes) < most_nodes = fits_nodes (beside a s) b.before in
    let tall : more a.depth s.depth < most_depth = fits_depth (beside a s) b.before in
    let sum : capped (a.nodes + s.nodes) ≡ a.nodes + s.nodes = capped_is (a.nodes + s.nodes) wide in
    let kept = part (do_fit s (right_below a.nodes s.nodes most_nodes (capped (a.nodes + s.nodes)) sum wide) (below_along s.depth (more a.depth s.depth) most_depth (more_other a.depth s.depth) tall)) in record {
      before = do_fit a (left_below a.nodes s.nodes most_nodes (capped (a.nodes + s.nodes)) sum wide) (below_along a.depth (more a.depth s.depth) most_depth (more_one a.depth s.depth) tall);
      ranged = all_true numbers others_numbers kept.ranged b.ranged;
      named = all_true names others_names kept.named b.named;
      few = three_within a.nodes s.nodes n m t.nodes (capped (a.nodes + s.nodes)) sum kept.few b.few;
      deep = at_most_along a.depth (more a.depth s.depth) t.depth (more_one a.depth s.depth) b.deep;
      flat = max-le (at_most_along k (more a.depth s.depth) t.depth (at_most_along k s.depth (more a.depth s.depth) kept.flat (more_other a.depth s.depth)) b.deep) b.flat;
    }

-- behind nothing
pub whole_fit : (numbers names : Bool) (n k : ℕ) (s : Size) → FitBehind no_size numbers names n k s → Fit numbers names n k s
whole_fit numbers names n k s rest h = let b = rest h in record { ranged = b.ranged; named = b.named; few = from_none n s.nodes b.few; flat = b.flat }

-- ---- a list, a context

abbrev around_if : Bool → Size → Size
around_if t s = if t then record { nodes = s.nodes + 1; depth = s.depth + 1 } else any_size

one_within : (n m : ℕ) → n ≤ m → 1 + n ≤ m + 1
one_within n m h = omega (arith, h)

around_by : (t : Bool) (s : Size) (n k : ℕ) → (t ≡ true → (n ≤ s.nodes) × (k ≤ s.depth)) → 1 + n ≤ most_nodes → 1 + k ≤ most_depth → (1 + n ≤ (around_if t s).nodes) × (1 + k ≤ (around_if t s).depth)
around_by true s n k kept few flat = let p = kept refl in (one_within n s.nodes p.0, one_within k s.depth p.1)
around_by false s n k kept few flat = (few, flat)

-- a value of such parts is no larger than a list or a context of them
around_keeps : (s : Size) (d : Datum) (numbers names : Bool) (n k : ℕ) → nodes d ≡ 1 + n → depth d ≡ 1 + k → Fit numbers names n k s → is_value d ≡ true → keeps (around s) d ≡ true
around_keeps s d numbers names n k wide tall part v =
    let l = valued d v in
    let p = around_by (fits s) s n k (λ e. (let q = part e in (q.few, q.flat))) (along_left (nodes d) (1 + n) most_nodes wide l.few) (along_left (depth d) (1 + k) most_depth tall l.flat) in
    is_kept (around s) d v (along_right (nodes d) (1 + n) (around s).nodes wide p.0) (along_right (depth d) (1 + k) (around s).depth tall p.1)

inside_below : (a n m c : ℕ) → a ≡ 1 + n → n ≤ m → m < c → a ≤ c
inside_below a n m c e h k = omega (arith, e, h, k)

-- it is a value where the parts fit
parts_value : (s : Size) (d : Datum) (n k : ℕ) → nodes d ≡ 1 + n → depth d ≡ 1 + k → fits s ≡ true → n ≤ s.nodes → k ≤ s.depth → numbers_in_range d ≡ true → names_distinct d ≡ true → is_value d ≡ true
parts_value s d n k wide tall h few flat ranged named =
    is_valued d ranged named (inside_below (nodes d) n s.nodes most_nodes wide few (fits_nodes s h)) (inside_below (depth d) k s.depth most_depth tall flat (fits_depth s h))

refused : (t b : Bool) → t ≡ false → (b ≡ true → t ≡ true) → not b ≡ true
refused t true e f = let g : t ≡ true = f refl in cc
refused t false e f = refl

list_by : (t : Bool) (s : Size) (ds : Items) → is_value (list ds) ≡ t → ItemsFit s ds → covers (listed s) (if t then Is (list ds) else Limit) ≡ true
list_by true s ds e part = around_keeps s (list ds) (items_in_range ds) (items_distinct ds) (items_nodes ds) (items_depth ds) refl refl part e
list_by false s ds e part = refused (is_value (list ds)) (fits s) e (λ h. (let q = part h in parts_value s (list ds) (items_nodes ds) (items_depth ds) refl refl h q.few q.flat q.ranged q.named))

pub list_covers : (s : Size) (ds : Items) → ItemsFit s ds → covers (listed s) (held (list ds)) ≡ true
list_covers s ds part = list_by (is_value (list ds)) s ds refl part

context_by : (t : Bool) (b : Bool) (s : Size) (es : Entries) → is_value (context es) ≡ t → (b ≡ true → names_differ es ≡ true) → EntriesFit s es → covers (named_parts b s) (if t then Is (context es) else Limit) ≡ true
context_by true b s es e differ part = around_keeps s (context es) (entries_in_range es) (entries_distinct es) (entries_nodes es) (entries_depth es) refl refl part e
context_by false b s es e differ part =
    refused (is_value (context es)) (b && fits s) e
    (λ h. (let both = both_true b (fits s) h in let q = part both.1 in
    parts_value s (context es) (entries_nodes es) (entries_depth es) refl refl both.1 q.few q.flat q.ranged (all_true (names_differ es) (entries_distinct es) (differ both.0) q.named)))

pub context_covers : (b : Bool) (s : Size) (es : Entries) → (b ≡ true → names_differ es ≡ true) → EntriesFit s es → covers (named_parts b s) (held (context es)) ≡ true
context_covers b s es differ part = context_by (is_value (context es)) b s es refl differ part

-- ---- the members of a list

one_or_more : (n : ℕ) → 1 ≤ 1 + n
one_or_more n = omega arith

one_counted : (n a b : ℕ) → 1 ≤ a → n ≤ b → suc n ≤ a + b
one_counted n a b h k = omega (arith, h, k)

one_fewer : (n a b : ℕ) → 1 + n ≤ a → a ≤ b → n ≤ b
one_fewer n a b h k = omega (arith, h, k)

some_node : (d : Datum) → 1 ≤ nodes d
some_node null = same 1
some_node (boolean b) = same 1
some_node (number z) = same 1
some_node (text s) = same 1
some_node (list ds) = one_or_more (items_nodes ds)
some_node (context es) = one_or_more (entries_nodes es)

count_within : (ds : Items) → length (members_of ds) ≤ items_nodes ds
count_within no_items = least_of 0
count_within (item d ds) = one_counted (length (members_of ds)) (nodes d) (items_nodes ds) (some_node d) (count_within ds)

-- a list that is a value has so many members at most
pub count_kept : (s : Size) (ds : Items) → keeps s (list ds) ≡ true → (1 + length (members_of ds) ≤ s.nodes) × (length (members_of ds) ≤ most_nodes)
count_kept s ds h =
    let p = kept_sizes s (list ds) h in
    let v = valued (list ds) (kept_value s (list ds) h) in
    let n : ℕ = length (members_of ds) in
    let c : 1 + n ≤ 1 + items_nodes ds = one_more_within n (items_nodes ds) (count_within ds) in
    (at_most_along (1 + n) (nodes (list ds)) s.nodes c p.0, one_fewer n (nodes (list ds)) most_nodes c v.few)

one_below : (n a c most : ℕ) → 1 ≤ n → c ≡ n * a → c < most → a < most
one_below n a c most some e h = let m : 1 * a ≤ n * a = mul-le 1 a n a some (same a) in omega (arith, m, e, h)

-- so many parts fit only where one does, and then nothing was cut off
pub times_wide : (n : ℕ) (s : Size) → 1 ≤ n → fits (times n s) ≡ true → (capped (n * s.nodes) ≡ n * s.nodes) × (fits s ≡ true)
times_wide n s some h =
    let a : capped (n * s.nodes) < most_nodes = fits_nodes (times n s) h in
    let e : capped (n * s.nodes) ≡ n * s.nodes = capped_is (n * s.nodes) a in
    (e, do_fit s (one_below n s.nodes (capped (n * s.nodes)) most_nodes some e a) (fits_depth (times n s) h))
