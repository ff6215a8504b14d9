-- Unary tests of constants: of literals, and of numbers that are worked out of numbers.
use Rattle.std.specs.Prelude.{◌≡◌, List, [], Bool, true, false, ◌&&◌, ◌||◌}
use Rattle.std.specs.List.{list_all, All}
use Rattle.feel_value.specs.declared.feel.Outcome.{Outcome}
use Rattle.feel_value.specs.declared.feel.Outcome.TheVariants.{Is, Limit}
use Rattle.feel_text.specs.declared.expr.Operator.{Operator}
use Rattle.feel_text.specs.declared.expr.Operator.TheVariants as operator
use Rattle.feel_text.specs.Expr.{Expr, Null, Boolean, Number, Text, Group, Negate, Binary}
use Rattle.feel_text.specs.Meaning.{den}
use Rattle.feel_text.specs.Tests.{Test, Compares, Interval, Equals, Tests, Any, OneOf, NoneOf}
use Rattle.dmn_table.specs.Table.{Rule, Table}

-- without its parentheses
abbrev pub bare : Expr → Expr
bare (Group e) = bare e
bare e = e

abbrev pub is_arithmetic : Operator → Bool
is_arithmetic operator.Add = true
is_arithmetic operator.Subtract = true
is_arithmetic operator.Multiply = true
is_arithmetic op = false

-- numbers alone, with parentheses, `-`, `+` and `*`
abbrev pub is_sum : Expr → Bool
is_sum (Number n) = true
is_sum (Group e) = is_sum e
is_sum (Negate e) = is_sum e
is_sum (Binary op a b) = is_arithmetic op && (is_sum a && is_sum b)
is_sum e = false

abbrev pub has_value : Outcome → Bool
has_value (Is d) = true
has_value Limit = false

-- a number that such a sum is, where it breaks no limit
abbrev pub is_number : Expr → Bool
is_number e = is_sum e && has_value (den e [])

abbrev pub is_scalar : Expr → Bool
is_scalar Null = true
is_scalar (Boolean b) = true
is_scalar (Text s) = true
is_scalar e = false

-- null, a truth value or a text, which may be in parentheses, or a number
abbrev pub is_literal : Expr → Bool
is_literal e = is_scalar (bare e) || is_number e

-- a test against constants
abbrev pub is_constant_test : Test → Bool
is_constant_test (Compares bound e) = is_literal e
is_constant_test (Interval closed_low low high closed_high) = is_literal low && is_literal high
is_constant_test (Equals e) = is_literal e

abbrev pub is_constant : Tests → Bool
is_constant Any = true
is_constant (OneOf ts) = list_all is_constant_test ts
is_constant (NoneOf ts) = list_all is_constant_test ts

-- each entry of each rule is constant
abbrev pub AreConstant : List Rule → Type 0
AreConstant rules = All (λ r. All (λ ts. is_constant ts ≡ true) r.tests) rules

abbrev pub IsConstant : Table → Type 0
IsConstant t = AreConstant t.rules
