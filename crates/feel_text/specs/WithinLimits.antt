-- Internal: no public contract cites these words. Expressions and unary tests that are known to break no limit, whatever the names stand for.
use Rattle.std.specs.Prelude.{Bool, true, false, pos, ◌&&◌}
use Rattle.std.specs.List.{list_all}
use Rattle.feel_value.specs.Limits.{in_range}
use Rattle.feel_text.specs.declared.expr.Operator.{Operator}
use Rattle.feel_text.specs.declared.expr.Operator.TheVariants as operator
use Rattle.feel_text.specs.Expr.{Expr, Null, Boolean, Number, Text, Name, Group, Members, Call, Modulo, Not, Negate, Path, Binary, Between, If}
use Rattle.feel_text.specs.Tests.{Test, Compares, Interval, Equals, Tests, Any, OneOf, NoneOf}

abbrev pub forms_truth : Operator → Bool
forms_truth operator.Add = false
forms_truth operator.Subtract = false
forms_truth operator.Multiply = false
forms_truth op = true

-- a literal, whose number, if it is one, is in range
abbrev pub is_literal : Expr → Bool
is_literal Null = true
is_literal (Boolean b) = true
is_literal (Number n) = in_range (pos n)
is_literal (Text bytes) = true
is_literal e = false

-- Beside literals, their negatives and what names stand for, only truth values are formed.
abbrev pub stays_within : Expr → Bool
stays_within Null = true
stays_within (Boolean b) = true
stays_within (Number n) = in_range (pos n)
stays_within (Text bytes) = true
stays_within (Name name) = true
stays_within (Group e) = stays_within e
stays_within (Members es) = false
stays_within (Call f e) = false
stays_within (Modulo a b) = false
stays_within (Not e) = stays_within e
stays_within (Negate e) = is_literal e
stays_within (Path e name) = false
stays_within (Binary op a b) = forms_truth op && stays_within a && stays_within b
stays_within (Between e low high) = stays_within e && stays_within low && stays_within high
stays_within (If test a b) = stays_within test && stays_within a && stays_within b

abbrev pub test_stays : Test → Bool
test_stays (Compares bound e) = stays_within e
test_stays (Interval closed_low low high closed_high) = stays_within low && stays_within high
test_stays (Equals e) = stays_within e

abbrev pub tests_stay : Tests → Bool
tests_stay Any = true
tests_stay (OneOf ts) = list_all test_stays ts
tests_stay (NoneOf ts) = list_all test_stays ts
