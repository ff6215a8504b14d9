-- What each form of an expression can give, from what its parts can give.
use Rattle.std.specs.Prelude.{ℕ, suc, ℤ, pos, int_le, ◌-ℤ◌, List, [], ◌∷◌, Bool, true, false, not, ◌&&◌, ◌||◌, Option, Some, None, is_some, unwrap_or, bytes_eq, if◌then◌else◌}
use Rattle.feel_value.specs.Limits.{in_range, most_nodes}
use Rattle.feel_text.specs.declared.expr.Operator.{Operator}
use Rattle.feel_text.specs.declared.expr.Operator.TheVariants as operator
use Rattle.feel_text.specs.declared.expr.Function.{Function}
use Rattle.feel_text.specs.declared.expr.Function.TheVariants as function
use Rattle.feel_text.specs.Expr as expr
use Rattle.feel_text.specs.Expr.{Expr, Exprs, none}
use Rattle.dmn_ranges.specs.Numbers.{least_number, most_number, sum, difference, product, absolute, remainder, has_divisor, hull, are_less, reach, widened_if, folded_if, held_if}
use Rattle.dmn_ranges.specs.Ranges.{Members, Scope, null_alone, no_texts, extent_named, within}
use Rattle.dmn_ranges.specs.declared.bounded.Bounded.{Bounded}
use Rattle.dmn_ranges.specs.declared.folded.Folded.{Folded}
use Rattle.dmn_ranges.specs.declared.interval.Interval.{Interval}
use Rattle.dmn_ranges.specs.declared.outcomes.Outcomes.{Outcomes}
use Rattle.dmn_ranges.specs.declared.range.Range.{Range}
use Rattle.dmn_ranges.specs.declared.parts.Parts.{Parts}
use Rattle.dmn_ranges.specs.declared.size.Size.{Size}
use Rattle.dmn_ranges.specs.declared.truths.Truths.{Truths}
use Rattle.dmn_ranges.specs.declared.texts.Texts.TheVariants as few
use Rattle.dmn_ranges.specs.Texts.{one_text, is_some_text, joined_texts, meet, differ}
use Rattle.dmn_ranges.specs.Sizes.{no_size, any_size, more, larger, beside, fits, around}

-- ---- ranges

abbrev pub everything : Interval
everything = record { low = least_number; high = most_number }

-- numbers, and null where this is said
abbrev pub numbers_or_null : Bool → Option Interval → Range
numbers_or_null n i = record { nulls = n; trues = false; falses = false; numbers = i; texts = no_texts; lists = false; contexts = false; size = no_size }

abbrev pub nothing : Range
nothing = numbers_or_null false None

-- any value, but lists and contexts of this size alone
abbrev pub any_of_size : Size → Range
any_of_size s = record { nulls = true; trues = true; falses = true; numbers = Some everything; texts = few.Any; lists = true; contexts = true; size = s }

abbrev pub anything : Range
anything = any_of_size any_size

abbrev pub truth_values : Bool → Bool → Bool → Range
truth_values n t f = record { nulls = n; trues = t; falses = f; numbers = None; texts = no_texts; lists = false; contexts = false; size = no_size }

abbrev pub text_alone : List ℕ → Range
text_alone s = record { nulls = false; trues = false; falses = false; numbers = None; texts = one_text s; lists = false; contexts = false; size = no_size }

-- lists of this size, contexts of this size
abbrev pub lists_of : Size → Range
lists_of s = record { nulls = false; trues = false; falses = false; numbers = None; texts = no_texts; lists = true; contexts = false; size = s }

abbrev pub contexts_of : Size → Range
contexts_of s = record { nulls = false; trues = false; falses = false; numbers = None; texts = no_texts; lists = false; contexts = true; size = s }

abbrev pub joined : Range → Range → Range
joined a b = record {
  nulls = a.nulls || b.nulls;
  trues = a.trues || b.trues;
  falses = a.falses || b.falses;
  numbers = hull a.numbers b.numbers;
  texts = joined_texts a.texts b.texts;
  lists = a.lists || b.lists;
  contexts = a.contexts || b.contexts;
  size = larger a.size b.size;
}

-- some value is no number
abbrev pub is_other : Range → Bool
is_other r = (r.nulls || (r.trues || r.falses)) || (is_some_text r.texts || (r.lists || r.contexts))

-- some value is no text
abbrev pub is_other_than_text : Range → Bool
is_other_than_text r = (r.nulls || (r.trues || r.falses)) || (is_some r.numbers || (r.lists || r.contexts))

-- some value is no list
abbrev pub is_other_than_list : Range → Bool
is_other_than_list r = (r.nulls || (r.trues || r.falses)) || (is_some r.numbers || (is_some_text r.texts || r.contexts))

-- each number is one of the range of numbers
abbrev pub are_numbers : Option Interval → Bool
are_numbers None = true
are_numbers (Some i) = int_le least_number i.low && int_le i.high most_number

-- how large a value can be; past where it can be no value
abbrev pub size_of : Range → Size
size_of r = record { nodes = if are_numbers r.numbers then more r.size.nodes 1 else most_nodes; depth = more r.size.depth 1 }

-- ---- outcomes

abbrev pub given : Range → Outcomes
given r = record { range = r; limit = false }

abbrev pub limited : Bool → Outcomes → Outcomes
limited l o = record { range = o.range; limit = l || o.limit }

abbrev pub with_one : Outcomes → (Range → Outcomes) → Outcomes
with_one o f = limited o.limit (f o.range)

abbrev pub with_two : Outcomes → Outcomes → (Range → Range → Outcomes) → Outcomes
with_two o p f = limited (o.limit || p.limit) (f o.range p.range)

abbrev pub either_outcomes : Outcomes → Outcomes → Outcomes
either_outcomes o p = record { range = joined o.range p.range; limit = o.limit || p.limit }

abbrev pub when : Bool → Outcomes → Outcomes
when b o = if b then o else given nothing

-- ---- numbers

abbrev pub numbers_given : Bool → Option Bounded → Outcomes
numbers_given n None = given (numbers_or_null n None)
numbers_given n (Some b) = record { range = numbers_or_null n (Some b.numbers); limit = b.limit }

abbrev pub worked_out : Operator → Interval → Interval → Bounded
worked_out operator.Add x y = sum x y
worked_out operator.Subtract x y = difference x y
worked_out op x y = product x y

abbrev pub paired : Operator → Option Interval → Option Interval → Option Bounded
paired op None y = None
paired op (Some x) None = None
paired op (Some x) (Some y) = Some (worked_out op x y)

abbrev pub arithmetic : Operator → Range → Range → Outcomes
arithmetic op a b = numbers_given (is_other a || is_other b) (paired op a.numbers b.numbers)

abbrev pub negated : Range → Outcomes
negated a = numbers_given (is_other a) (paired operator.Subtract (Some (record { low = pos 0; high = pos 0 })) a.numbers)

abbrev pub absolute_if : Option Interval → Option Bounded
absolute_if None = None
absolute_if (Some x) = Some (absolute x)

abbrev pub absolutes : Range → Outcomes
absolutes a = numbers_given (is_other a) (absolute_if a.numbers)

-- any number or null, or a limit is broken
abbrev pub some_number : Outcomes
some_number = record { range = numbers_or_null true (Some everything); limit = true }

abbrev pub left_by : Interval → Option Bounded
left_by y = if has_divisor y then Some (remainder y) else None

abbrev pub divided : Option Interval → Option Interval → Option Bounded
divided None y = None
divided (Some x) None = None
divided (Some x) (Some y) = left_by y

-- by 0 nothing is left
abbrev pub remainders : Range → Range → Outcomes
remainders a b = numbers_given ((is_other a || is_other b) || within b.numbers (pos 0)) (divided a.numbers b.numbers)

-- ---- truth values

abbrev pub truths : Range → Truths
truths r = record { yes = r.trues; no = r.falses; unknown = (r.nulls || is_some r.numbers) || (is_some_text r.texts || (r.lists || r.contexts)) }

abbrev pub opposite : Truths → Truths
opposite a = record { yes = a.no; no = a.yes; unknown = a.unknown }

abbrev pub and_truths : Truths → Truths → Truths
and_truths a b = record { yes = a.yes && b.yes; no = a.no || b.no; unknown = (a.unknown && (b.yes || b.unknown)) || (a.yes && b.unknown) }

abbrev pub or_truths : Truths → Truths → Truths
or_truths a b = record { yes = a.yes || b.yes; no = a.no && b.no; unknown = (a.unknown && (b.no || b.unknown)) || (a.no && b.unknown) }

abbrev pub told : Truths → Outcomes
told a = given (truth_values a.unknown a.yes a.no)

-- ---- comparisons

abbrev pub less_truths : Range → Range → Truths
less_truths a b = record {
  yes = are_less a.numbers b.numbers || (is_some_text a.texts && is_some_text b.texts);
  no = reach a.numbers b.numbers || (is_some_text a.texts && is_some_text b.texts);
  unknown = (is_other a || is_other b) && (is_other_than_text a || is_other_than_text b);
}

-- Each value is null, or of a kind for which this is said.
abbrev pub has_only : Range → Bool → Bool → Bool → Bool
has_only a truths numbers texts =
    ((truths || not (a.trues || a.falses)) && (numbers || not (is_some a.numbers))) && ((texts || not (is_some_text a.texts)) && not (a.lists || a.contexts))

-- of each value of the first and each of the second it is known whether they are equal
abbrev pub is_alike : Range → Range → Bool
is_alike a b =
    (has_only a false false false || has_only b false false false)
    || ((has_only a true false false && has_only b true false false)
    || ((has_only a false true false && has_only b false true false) || (has_only a false false true && has_only b false false true)))

-- some value is not null
abbrev pub is_not_null : Range → Bool
is_not_null r = (r.trues || r.falses) || (is_some r.numbers || (is_some_text r.texts || (r.lists || r.contexts)))

-- some value of the first is equal to one of the second
abbrev pub can_equal : Range → Range → Bool
can_equal a b =
    ((a.nulls && b.nulls) || ((a.trues && b.trues) || (a.falses && b.falses)))
    || ((reach a.numbers b.numbers && reach b.numbers a.numbers) || (meet a.texts b.texts || ((a.lists && b.lists) || (a.contexts && b.contexts))))

-- some value of the first is not equal to one of the second
abbrev pub can_differ : Range → Range → Bool
can_differ a b =
    (((a.nulls && is_not_null b) || (b.nulls && is_not_null a)) || ((a.trues && b.falses) || (a.falses && b.trues)))
    || ((are_less a.numbers b.numbers || are_less b.numbers a.numbers) || (differ a.texts b.texts || ((a.lists && b.lists) || (a.contexts && b.contexts))))

abbrev pub equal_truths : Range → Range → Truths
equal_truths a b = record { yes = can_equal a b; no = can_differ a b; unknown = not (is_alike a b) }

abbrev pub operated : Operator → Range → Range → Outcomes
operated operator.Or a b = told (or_truths (truths a) (truths b))
operated operator.And a b = told (and_truths (truths a) (truths b))
operated operator.Equal a b = told (equal_truths a b)
operated operator.NotEqual a b = told (opposite (equal_truths a b))
operated operator.Less a b = told (less_truths a b)
operated operator.LessEqual a b = told (opposite (less_truths b a))
operated operator.Greater a b = told (less_truths b a)
operated operator.GreaterEqual a b = told (opposite (less_truths a b))
operated operator.Add a b = arithmetic operator.Add a b
operated operator.Subtract a b = arithmetic operator.Subtract a b
operated operator.Multiply a b = arithmetic operator.Multiply a b

abbrev pub between : Range → Range → Range → Outcomes
between a low high = told (and_truths (opposite (less_truths a low)) (opposite (less_truths high a)))

abbrev pub inverted : Range → Outcomes
inverted a = told (opposite (truths a))

-- ---- functions, paths and lists

-- the sum of a list
abbrev pub summed : Range → Outcomes
summed a = if a.lists then some_number else given null_alone

-- the least or the greatest of a list, which is one of its numbers
abbrev pub picked : Range → Outcomes
picked a = if a.lists then given (numbers_or_null true (Some everything)) else given null_alone

-- the members of a list, which is a node beside them
abbrev pub counted : Range → Outcomes
counted a = if a.lists then given (numbers_or_null (is_other_than_list a) (Some (record { low = pos 0; high = pos a.size.nodes -ℤ pos 1 }))) else given null_alone

abbrev pub called : Function → Range → Outcomes
called function.Abs a = absolutes a
called function.Count a = counted a
called function.Sum a = summed a
called function.Min a = picked a
called function.Max a = picked a

abbrev pub paths : Range → Outcomes
paths a = if a.contexts || a.lists then given (any_of_size a.size) else given null_alone

-- ---- values that are formed of parts

-- a list of parts of this size
abbrev pub listed : Size → Outcomes
listed s = record { range = lists_of (around s); limit = not (fits s) }

-- a context of parts of this size, under names that are distinct where this is said
abbrev pub named_parts : Bool → Size → Outcomes
named_parts distinct s = record { range = contexts_of (around s); limit = not (distinct && fits s) }

abbrev pub no_parts : Parts
no_parts = record { size = no_size; limit = false }

abbrev pub with_part : Parts → Outcomes → Parts
with_part p o = record { size = beside p.size (size_of o.range); limit = p.limit || o.limit }

abbrev pub list_of : Parts → Outcomes
list_of p = limited p.limit (listed p.size)

abbrev pub context_of : Bool → Parts → Outcomes
context_of distinct p = limited p.limit (named_parts distinct p.size)

-- ---- members of what names stand for

-- an expression is this path into what a name stands for; the last name of the path comes first
abbrev pub is_path : Expr → List (List ℕ) → Bool
is_path (expr.Name name) [] = true
is_path (expr.Name name) (n ∷ ns) = false
is_path (expr.Group e) ns = is_path e ns
is_path (expr.Path e name) [] = false
is_path (expr.Path e name) (n ∷ ns) = bytes_eq n name && is_path e ns
is_path e ns = false

-- what is said of the members of what its path leads into
abbrev pub members_behind : Expr → Scope → Members
members_behind (expr.Name name) xs = (extent_named xs name).1
members_behind (expr.Group e) xs = members_behind e xs
members_behind (expr.Path e name) xs = members_behind e xs
members_behind e xs = []

-- what is said of an expression among members
abbrev pub member_at : Expr → Members → Option Range
member_at e [] = None
member_at e (m ∷ ms) = if is_path e m.0 then Some m.1 else member_at e ms

abbrev pub known_or : Option Range → Outcomes → Outcomes
known_or None o = o
known_or (Some r) o = given r

-- ---- literals and branches

abbrev pub point : ℤ → Range
point z = numbers_or_null false (Some (record { low = z; high = z }))

-- a number of a text, which may be past the range
abbrev pub natural : ℕ → Outcomes
natural n = if in_range (pos n) then given (point (pos n)) else record { range = nothing; limit = true }

-- the branches of an `if` that can be taken
abbrev pub branches : Truths → Outcomes → Outcomes → Outcomes
branches t o p = either_outcomes (when t.yes o) (when (t.no || t.unknown) p)

-- ---- functions of written lists

abbrev pub first_member : Outcomes → Folded
first_member o = record { parts = with_part no_parts o; numbers = widened_if o.range.numbers; others = is_other o.range }

-- the first members with one more
abbrev pub with_member : Function → Option Folded → Outcomes → Folded
with_member f None o = first_member o
with_member f (Some g) o = record { parts = with_part g.parts o; numbers = folded_if f g.numbers (widened_if o.range.numbers); others = g.others || is_other o.range }

-- what a function gives of a list of no members
abbrev pub of_no_members : Function → Outcomes
of_no_members function.Count = natural 0
of_no_members f = given null_alone

-- what a function gives of a list of so many members, which keeps the limits
abbrev pub of_members : Function → ℕ → Folded → Outcomes
of_members function.Abs n g = given null_alone
of_members function.Count n g = natural n
of_members f n g = numbers_given g.others (held_if g.numbers)

-- what a function gives of a list of so many members
abbrev pub list_outcomes : Function → ℕ → Option Folded → Outcomes
list_outcomes f n None = of_no_members f
list_outcomes f n (Some g) = limited (list_of g.parts).limit (of_members f n g)

abbrev pub member_count : Exprs → ℕ
member_count none = 0
member_count (expr.more e es) = suc (member_count es)

-- ---- expressions

abbrev mutual
  pub outcomes : Expr → Scope → Outcomes
  outcomes expr.Null xs = given null_alone
  outcomes (expr.Boolean b) xs = given (truth_values false b (not b))
  outcomes (expr.Number n) xs = natural n
  outcomes (expr.Text bytes) xs = given (text_alone bytes)
  outcomes (expr.Name name) xs = given (extent_named xs name).0
  outcomes (expr.Group e) xs = outcomes e xs
  outcomes (expr.Members es) xs = list_of (members_parts no_parts es xs)
  outcomes (expr.Call f e) xs = unwrap_or (list_call f e xs) (with_one (outcomes e xs) (called f))
  outcomes (expr.Modulo a b) xs = with_two (outcomes a xs) (outcomes b xs) remainders
  outcomes (expr.Not e) xs = with_one (outcomes e xs) inverted
  outcomes (expr.Negate e) xs = with_one (outcomes e xs) negated
  outcomes (expr.Path e name) xs = known_or (member_at (expr.Path e name) (members_behind e xs)) (with_one (outcomes e xs) paths)
  outcomes (expr.Binary op a b) xs = with_two (outcomes a xs) (outcomes b xs) (operated op)
  outcomes (expr.Between e low high) xs =
      with_one (outcomes e xs) (λ r. with_two (outcomes low xs) (outcomes high xs) (between r))
  outcomes (expr.If test a b) xs = with_one (outcomes test xs) (λ r. branches (truths r) (outcomes a xs) (outcomes b xs))

  -- these parts, and the members behind them
  pub members_parts : Parts → Exprs → Scope → Parts
  members_parts p none xs = p
  members_parts p (expr.more e es) xs = members_parts (with_part p (outcomes e xs)) es xs

  -- what a function gives of a written list
  pub list_call : Function → Expr → Scope → Option Outcomes
  list_call f (expr.Group e) xs = list_call f e xs
  list_call f (expr.Members es) xs = Some (list_outcomes f (member_count es) (members_folded f None es xs))
  list_call f e xs = None

  -- these members, and those behind them
  pub members_folded : Function → Option Folded → Exprs → Scope → Option Folded
  members_folded f g none xs = g
  members_folded f g (expr.more e es) xs = members_folded f (Some (with_member f g (outcomes e xs))) es xs
