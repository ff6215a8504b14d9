-- Unary tests in which no name stands.
use Rattle.std.specs.Prelude.{Bool, true, false, ◌&&◌}
use Rattle.std.specs.List.{list_all}
use Rattle.feel_text.specs.Expr.{Expr, Exprs, none, more, Null, Boolean, Number, Text, Name, Group, Members, Call, Modulo, Not, Negate, Path, Binary, Between, If}
use Rattle.feel_text.specs.Tests.{Test, Compares, Interval, Equals, Tests, Any, OneOf, NoneOf}

abbrev mutual
  pub has_no_name : Expr → Bool
  has_no_name Null = true
  has_no_name (Boolean b) = true
  has_no_name (Number n) = true
  has_no_name (Text s) = true
  has_no_name (Name n) = false
  has_no_name (Group e) = has_no_name e
  has_no_name (Members es) = have_no_name es
  has_no_name (Call f e) = has_no_name e
  has_no_name (Modulo a b) = has_no_name a && has_no_name b
  has_no_name (Not e) = has_no_name e
  has_no_name (Negate e) = has_no_name e
  has_no_name (Path e n) = has_no_name e
  has_no_name (Binary op a b) = has_no_name a && has_no_name b
  has_no_name (Between e low high) = has_no_name e && (has_no_name low && has_no_name high)
  has_no_name (If test a b) = has_no_name test && (has_no_name a && has_no_name b)

  pub have_no_name : Exprs → Bool
  have_no_name none = true
  have_no_name (more e es) = has_no_name e && have_no_name es

abbrev pub is_nameless_test : Test → Bool
is_nameless_test (Compares bound e) = has_no_name e
is_nameless_test (Interval closed_low low high closed_high) = has_no_name low && has_no_name high
is_nameless_test (Equals e) = has_no_name e

abbrev pub is_nameless : Tests → Bool
is_nameless Any = true
is_nameless (OneOf ts) = list_all is_nameless_test ts
is_nameless (NoneOf ts) = list_all is_nameless_test ts
