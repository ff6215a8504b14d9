-- Examples, computed over the definitions.
use Rattle.std.proofs.Common.{◌≡◌, ℕ, zero, suc, pos, negsuc, true, false, [], ◌∷◌, Some, None, refl}
use Rattle.std.specs.Prelude.{codes}
use Rattle.feel_value.specs.Datum as datum
use Rattle.feel_value.specs.Datum.{Datum, no_items, item}
use Rattle.feel_value.specs.declared.logic.Truth.TheVariants as truth
use Rattle.feel_text.specs.declared.expr.Operator.TheVariants as op
use Rattle.feel_text.specs.declared.expr.Function.TheVariants as function
use Rattle.feel_text.specs.Expr.{Expr, depth, none, more, Null, Boolean, Number, Text, Name, Group, Members, Call, Modulo, Not, Negate, Binary, Between, If}
use Rattle.feel_value.specs.declared.feel.Outcome.TheVariants.{Is, Limit}
use Rattle.feel_text.specs.Meaning.{den, bound}
use Rattle.feel_text.specs.Tests as tests
use Rattle.feel_text.specs.Satisfied.{Told, Broken, satisfied}
use Rattle.feel_text.specs.Lexical.{unescaped, is_name, number_from}

n1 : Expr
n1 = Number 1

null_is_null : den (Binary op.Equal Null Null) [] ≡ Is (datum.boolean true)
null_is_null = refl

null_is_one : den (Binary op.Equal Null (Number 1)) [] ≡ Is (datum.boolean false)
null_is_one = refl

one_is_text : den (Binary op.Equal (Number 1) (Text (codes "1"))) [] ≡ Is datum.null
one_is_text = refl

one_is_no_text : den (Binary op.NotEqual (Number 1) (Text (codes "1"))) [] ≡ Is datum.null
one_is_no_text = refl

lists_differ : den (Binary op.Equal (Members (more (Number 1) (more (Text (codes "a")) none))) (Members (more (Number 1) (more (Number 2) none)))) [] ≡ Is (datum.boolean false)
lists_differ = refl

false_and_null : den (Binary op.And (Boolean false) Null) [] ≡ Is (datum.boolean false)
false_and_null = refl

true_and_null : den (Binary op.And (Boolean true) Null) [] ≡ Is datum.null
true_and_null = refl

true_or_one : den (Binary op.Or (Boolean true) (Number 1)) [] ≡ Is (datum.boolean true)
true_or_one = refl

if_null : den (If Null (Number 1) (Number 2)) [] ≡ Is (datum.number (pos 2))
if_null = refl

not_one : den (Not (Number 1)) [] ≡ Is datum.null
not_one = refl

modulo_low : den (Modulo (Negate (Number 7)) (Number 3)) [] ≡ Is (datum.number (pos 2))
modulo_low = refl

modulo_high : den (Modulo (Number 7) (Negate (Number 3))) [] ≡ Is (datum.number (negsuc 1))
modulo_high = refl

modulo_zero : den (Modulo (Number 7) (Number 0)) [] ≡ Is datum.null
modulo_zero = refl

modulo_both_low : den (Modulo (Negate (Number 7)) (Negate (Number 3))) [] ≡ Is (datum.number (negsuc 0))
modulo_both_low = refl

modulo_even : den (Modulo (Number 6) (Negate (Number 3))) [] ≡ Is (datum.number (pos 0))
modulo_even = refl

sum_empty : den (Call function.Sum (Members none)) [] ≡ Is datum.null
sum_empty = refl

count_empty : den (Call function.Count (Members none)) [] ≡ Is (datum.number (pos 0))
count_empty = refl

max_null : den (Call function.Max (Members (more (Number 1) (more Null none)))) [] ≡ Is datum.null
max_null = refl

plus_null : den (Binary op.Add (Number 1) Null) [] ≡ Is datum.null
plus_null = refl

minus_chain : den (Binary op.Subtract (Binary op.Subtract (Number 2) (Number 3)) (Number 4)) [] ≡ Is (datum.number (negsuc 4))
minus_chain = refl

between_and : den (Binary op.And (Between (Number 2) (Number 1) (Number 3)) (Boolean false)) [] ≡ Is (datum.boolean false)
between_and = refl

unbound : den (Name (codes "x")) [] ≡ Is datum.null
unbound = refl

-- limits
below_range : den (Binary op.Subtract (Negate (Number 9223372036854775807)) (Number 1)) [] ≡ Limit
below_range = refl

abs_least : den (Call function.Abs (Negate (Number 9223372036854775807))) [] ≡ Is (datum.number (pos 9223372036854775807))
abs_least = refl

product : den (Binary op.Multiply (Number 4294967296) (Number 4294967296)) [] ≡ Limit
product = refl

sum_within : den (Call function.Sum (Members (more (Number 9223372036854775807) (more (Number 1) (more (Negate (Number 1)) none))))) [] ≡ Is (datum.number (pos 9223372036854775807))
sum_within = refl

modulo_least : den (Modulo (Number 1) (Negate (Number 9223372036854775807))) [] ≡ Is (datum.number (negsuc 9223372036854775805))
modulo_least = refl

branch_untaken : den (If (Boolean false) (Binary op.Add (Number 9223372036854775807) (Number 1)) (Number 7)) [] ≡ Is (datum.number (pos 7))
branch_untaken = refl

both_evaluated : den (Binary op.And (Boolean false) (Binary op.Greater (Binary op.Add (Number 9223372036854775807) (Number 1)) (Number 0))) [] ≡ Limit
both_evaluated = refl

-- the last binding of a name counts
last_binding : bound (codes "a") ((codes "a", datum.number (pos 1)) ∷ (codes "a", datum.number (pos 2)) ∷ []) ≡ Some (datum.number (pos 2))
last_binding = refl

-- unary tests
test_any : satisfied tests.Any datum.null [] ≡ Told truth.Yes
test_any = refl

half_open : satisfied (tests.OneOf (tests.Interval true (Number 1) (Number 5) false ∷ [])) (datum.number (pos 5)) [] ≡ Told truth.No
half_open = refl

turned_low : satisfied (tests.OneOf (tests.Interval false (Number 1) (Number 5) true ∷ [])) (datum.number (pos 1)) [] ≡ Told truth.No
turned_low = refl

turned_high : satisfied (tests.OneOf (tests.Interval false (Number 1) (Number 5) true ∷ [])) (datum.number (pos 5)) [] ≡ Told truth.Yes
turned_high = refl

one_of : satisfied (tests.OneOf (tests.Compares tests.Below (Number 3) ∷ tests.Compares tests.Above (Number 7) ∷ [])) (datum.number (pos 8)) [] ≡ Told truth.Yes
one_of = refl

none_of : satisfied (tests.NoneOf (tests.Compares tests.Below (Number 3) ∷ tests.Compares tests.Above (Number 7) ∷ [])) (datum.number (pos 5)) [] ≡ Told truth.Yes
none_of = refl

none_of_null : satisfied (tests.NoneOf (tests.Compares tests.Below (Number 3) ∷ [])) datum.null [] ≡ Told truth.Unknown
none_of_null = refl

null_test : satisfied (tests.OneOf (tests.Equals Null ∷ [])) datum.null [] ≡ Told truth.Yes
null_test = refl

in_list : satisfied (tests.OneOf (tests.Equals (Members (more (Number 1) (more (Number 5) none))) ∷ [])) (datum.number (pos 5)) [] ≡ Told truth.Yes
in_list = refl

other_kind : satisfied (tests.OneOf (tests.Equals (Text (codes "a")) ∷ [])) (datum.number (pos 1)) [] ≡ Told truth.No
other_kind = refl

broken_test : satisfied (tests.OneOf (tests.Equals (Binary op.Add (Number 9223372036854775807) (Number 1)) ∷ [])) (datum.number (pos 1)) [] ≡ Broken
broken_test = refl

-- tokens
keyword_no_name : is_name (codes "between") ≡ false
keyword_no_name = refl

function_is_name : is_name (codes "abs") ≡ true
function_is_name = refl

leading_zeros : number_from 0 (codes "007") ≡ 7
leading_zeros = refl

escapes : unescaped (97 ∷ 92 ∷ 34 ∷ 92 ∷ 110 ∷ []) ≡ Some (97 ∷ 34 ∷ 10 ∷ [])
escapes = refl

other_escape : unescaped (92 ∷ 117 ∷ []) ≡ None
other_escape = refl

-- depth: 1 in k pairs of parentheses, k + 1 terms joined by `+`, and k + 1 lists inside each other
abbrev grouped : ℕ → Expr
grouped zero = Number 1
grouped (suc k) = Group (grouped k)

abbrev terms : ℕ → Expr
terms zero = Number 1
terms (suc k) = Binary op.Add (terms k) (Number 1)

abbrev nested : ℕ → Expr
nested zero = Members none
nested (suc k) = Members (more (nested k) none)

groups_63 : depth (grouped 63) ≡ 64
groups_63 = refl

groups_64 : depth (grouped 64) ≡ 65
groups_64 = refl

terms_64 : depth (terms 63) ≡ 64
terms_64 = refl

terms_65 : depth (terms 64) ≡ 65
terms_65 = refl

lists_64 : depth (nested 63) ≡ 64
lists_64 = refl

lists_65 : depth (nested 64) ≡ 65
lists_65 = refl

terms_value : den (terms 63) [] ≡ Is (datum.number (pos 64))
terms_value = refl
