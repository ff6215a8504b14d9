-- Internal: no public contract cites these words. A code of expressions and unary tests: numbers and lists that give them back.
-- A type of the program that stands for such a value is asked for one.
use Rattle.std.specs.Prelude.{◌≡◌, ℕ, true, false, List, [], ◌∷◌, ◌==◌, map, refl, if◌then◌else◌}
use Rattle.std.proofs.Common.{ap, ap₂}
use Rattle.std.specs.Coded.{Coded, code_by, coded×, coded_ℕ, coded_list}
use base.Stored.{Gv, gnil, gnum, gcons, num}
use denote.Struct.Codes.{itself}
use Rattle.feel_value.specs.Code.{bytes_tree, bytes_from, bytes_back}
use Rattle.feel_text.specs.declared.expr.Operator.{Operator}
use Rattle.feel_text.specs.declared.expr.Operator.TheVariants as operator
use Rattle.feel_text.specs.declared.expr.Function.{Function}
use Rattle.feel_text.specs.declared.expr.Function.TheVariants as function
use Rattle.feel_text.specs.Expr.{Expr, Exprs, none, more, Null, Boolean, Number, Text, Name, Group, Members, Call, Modulo, Not, Negate, Path, Binary, Between, If}
use Rattle.feel_text.specs.Tests.{Below, AtMost, Above, AtLeast, Test, Compares, Interval, Equals, Tests, Any, OneOf, NoneOf}

-- ---- numbers of operators and functions

abbrev pub operator_number : Operator → ℕ
operator_number operator.Or = 0
operator_number operator.And = 1
operator_number operator.Equal = 2
operator_number operator.NotEqual = 3
operator_number operator.Less = 4
operator_number operator.LessEqual = 5
operator_number operator.Greater = 6
operator_number operator.GreaterEqual = 7
operator_number operator.Add = 8
operator_number operator.Subtract = 9
operator_number operator.Multiply = 10

abbrev pub operator_from : ℕ → Operator
operator_from n =
    if n == 0 then operator.Or
    else if n == 1 then operator.And
    else if n == 2 then operator.Equal
    else if n == 3 then operator.NotEqual
    else if n == 4 then operator.Less
    else if n == 5 then operator.LessEqual
    else if n == 6 then operator.Greater
    else if n == 7 then operator.GreaterEqual
    else if n == 8 then operator.Add
    else if n == 9 then operator.Subtract
    else operator.Multiply

pub operator_back : (op : Operator) → operator_from (operator_number op) ≡ op
operator_back operator.Or = refl
operator_back operator.And = refl
operator_back operator.Equal = refl
operator_back operator.NotEqual = refl
operator_back operator.Less = refl
operator_back operator.LessEqual = refl
operator_back operator.Greater = refl
operator_back operator.GreaterEqual = refl
operator_back operator.Add = refl
operator_back operator.Subtract = refl
operator_back operator.Multiply = refl

abbrev pub function_number : Function → ℕ
function_number function.Abs = 0
function_number function.Sum = 1
function_number function.Min = 2
function_number function.Max = 3
function_number function.Count = 4

abbrev pub function_from : ℕ → Function
function_from n =
    if n == 0 then function.Abs
    else if n == 1 then function.Sum
    else if n == 2 then function.Min
    else if n == 3 then function.Max
    else function.Count

pub function_back : (f : Function) → function_from (function_number f) ≡ f
function_back function.Abs = refl
function_back function.Sum = refl
function_back function.Min = refl
function_back function.Max = refl
function_back function.Count = refl

-- ---- expressions

-- the parts of an expression
abbrev pub first_of : Exprs → Expr
first_of none = Null
first_of (more e es) = e

abbrev pub rest_of : Exprs → Exprs
rest_of none = none
rest_of (more e es) = es

abbrev pub second_of : Exprs → Expr
second_of es = first_of (rest_of es)

abbrev pub third_of : Exprs → Expr
third_of es = second_of (rest_of es)

-- a form's number, what it has besides its parts, and its parts
abbrev pub node : ℕ → Gv → Gv → Gv
node form extra parts = gcons (gcons (gnum form) extra) parts

abbrev mutual
  pub tree : Expr → Gv
  tree Null = node 0 gnil gnil
  tree (Boolean false) = node 1 gnil gnil
  tree (Boolean true) = node 2 gnil gnil
  tree (Number n) = node 3 (gnum n) gnil
  tree (Text bytes) = node 4 (bytes_tree bytes) gnil
  tree (Name name) = node 5 (bytes_tree name) gnil
  tree (Group e) = node 6 gnil (gcons (tree e) gnil)
  tree (Members es) = node 7 gnil (trees es)
  tree (Call f e) = node 8 (gnum (function_number f)) (gcons (tree e) gnil)
  tree (Modulo a b) = node 9 gnil (gcons (tree a) (gcons (tree b) gnil))
  tree (Not e) = node 10 gnil (gcons (tree e) gnil)
  tree (Negate e) = node 11 gnil (gcons (tree e) gnil)
  tree (Path e name) = node 12 (bytes_tree name) (gcons (tree e) gnil)
  tree (Binary op a b) = node 13 (gnum (operator_number op)) (gcons (tree a) (gcons (tree b) gnil))
  tree (Between e low high) = node 14 gnil (gcons (tree e) (gcons (tree low) (gcons (tree high) gnil)))
  tree (If test a b) = node 15 gnil (gcons (tree test) (gcons (tree a) (gcons (tree b) gnil)))

  pub trees : Exprs → Gv
  trees none = gnil
  trees (more e es) = gcons (tree e) (trees es)

-- the expression of a form with these parts
abbrev pub formed : ℕ → Gv → Exprs → Expr
formed form extra parts =
    if form == 0 then Null
    else if form == 1 then Boolean false
    else if form == 2 then Boolean true
    else if form == 3 then Number (num extra)
    else if form == 4 then Text (bytes_from extra)
    else if form == 5 then Name (bytes_from extra)
    else if form == 6 then Group (first_of parts)
    else if form == 7 then Members parts
    else if form == 8 then Call (function_from (num extra)) (first_of parts)
    else if form == 9 then Modulo (first_of parts) (second_of parts)
    else if form == 10 then Not (first_of parts)
    else if form == 11 then Negate (first_of parts)
    else if form == 12 then Path (first_of parts) (bytes_from extra)
    else if form == 13 then Binary (operator_from (num extra)) (first_of parts) (second_of parts)
    else if form == 14 then Between (first_of parts) (second_of parts) (third_of parts)
    else If (first_of parts) (second_of parts) (third_of parts)

abbrev pub headed : Gv → Exprs → Expr
headed gnil parts = Null
headed (gnum n) parts = Null
headed (gcons form extra) parts = formed (num form) extra parts

abbrev mutual
  pub expr_from : Gv → Expr
  expr_from gnil = Null
  expr_from (gnum n) = Null
  expr_from (gcons head parts) = headed head (exprs_from parts)

  pub exprs_from : Gv → Exprs
  exprs_from gnil = none
  exprs_from (gnum n) = none
  exprs_from (gcons e es) = more (expr_from e) (exprs_from es)

mutual
  pub back : (e : Expr) → expr_from (tree e) ≡ e
  back Null = refl
  back (Boolean false) = refl
  back (Boolean true) = refl
  back (Number n) = refl
  back (Text bytes) = ap Text (bytes_back bytes)
  back (Name name) = ap Name (bytes_back name)
  back (Group e) = ap Group (back e)
  back (Members es) = ap Members (parts_back es)
  back (Call f e) = λ i. Call (function_back f i) (back e i)
  back (Modulo a b) = λ i. Modulo (back a i) (back b i)
  back (Not e) = ap Not (back e)
  back (Negate e) = ap Negate (back e)
  back (Path e name) = λ i. Path (back e i) (bytes_back name i)
  back (Binary op a b) = λ i. Binary (operator_back op i) (back a i) (back b i)
  back (Between e low high) = λ i. Between (back e i) (back low i) (back high i)
  back (If test a b) = λ i. If (back test i) (back a i) (back b i)

  pub parts_back : (es : Exprs) → exprs_from (trees es) ≡ es
  parts_back none = refl
  parts_back (more e es) = λ i. more (back e i) (parts_back es i)

abbrev pub expr_code : Coded Expr
expr_code = code_by Gv itself tree expr_from back

-- ---- unary tests

-- a test as a number and the expressions that it has
abbrev pub test_parts : Test → ℕ × (Expr × Expr)
test_parts (Compares Below e) = (0, (e, Null))
test_parts (Compares AtMost e) = (1, (e, Null))
test_parts (Compares Above e) = (2, (e, Null))
test_parts (Compares AtLeast e) = (3, (e, Null))
test_parts (Interval true low high true) = (4, (low, high))
test_parts (Interval true low high false) = (5, (low, high))
test_parts (Interval false low high true) = (6, (low, high))
test_parts (Interval false low high false) = (7, (low, high))
test_parts (Equals e) = (8, (e, Null))

abbrev pub test_formed : ℕ → Expr → Expr → Test
test_formed form a b =
    if form == 0 then Compares Below a
    else if form == 1 then Compares AtMost a
    else if form == 2 then Compares Above a
    else if form == 3 then Compares AtLeast a
    else if form == 4 then Interval true a b true
    else if form == 5 then Interval true a b false
    else if form == 6 then Interval false a b true
    else if form == 7 then Interval false a b false
    else Equals a

abbrev pub test_from : ℕ × (Expr × Expr) → Test
test_from p = test_formed p.0 p.1.0 p.1.1

pub test_back : (t : Test) → test_from (test_parts t) ≡ t
test_back (Compares Below e) = refl
test_back (Compares AtMost e) = refl
test_back (Compares Above e) = refl
test_back (Compares AtLeast e) = refl
test_back (Interval true low high true) = refl
test_back (Interval true low high false) = refl
test_back (Interval false low high true) = refl
test_back (Interval false low high false) = refl
test_back (Equals e) = refl

pub list_back : (ts : List Test) → map test_from (map test_parts ts) ≡ ts
list_back [] = refl
list_back (t ∷ ts) = ap₂ (λ u us. u ∷ us) (test_back t) (list_back ts)

abbrev pub tests_parts : Tests → ℕ × List (ℕ × (Expr × Expr))
tests_parts Any = (0, [])
tests_parts (OneOf ts) = (1, map test_parts ts)
tests_parts (NoneOf ts) = (2, map test_parts ts)

abbrev pub tests_from : ℕ × List (ℕ × (Expr × Expr)) → Tests
tests_from p =
    if p.0 == 0 then Any
    else if p.0 == 1 then OneOf (map test_from p.1)
    else NoneOf (map test_from p.1)

pub tests_back : (t : Tests) → tests_from (tests_parts t) ≡ t
tests_back Any = refl
tests_back (OneOf ts) = ap OneOf (list_back ts)
tests_back (NoneOf ts) = ap NoneOf (list_back ts)

abbrev pub tests_code : Coded Tests
tests_code = code_by (ℕ × List (ℕ × (Expr × Expr))) (coded× coded_ℕ (coded_list (coded× coded_ℕ (coded× expr_code expr_code)))) tests_parts tests_from tests_back
