-- Internal: no public contract cites these words. A code of tables: pairs and lists that give them back. A type of the program
-- that stands for such a value is asked for one.
use Rattle.std.specs.Prelude.{◌≡◌, ℕ, List, Option, ◌==◌, refl, if◌then◌else◌}
use Rattle.std.specs.Coded.{Coded, code_by, coded×, coded_ℕ, coded_list, coded_option}
use Rattle.feel_value.specs.Code.{datum_code}
use Rattle.feel_value.specs.Datum.{Datum}
use Rattle.feel_text.specs.Code.{expr_code, tests_code}
use Rattle.feel_text.specs.Expr.{Expr}
use Rattle.feel_text.specs.Tests.{Tests}
use Rattle.dmn_table.specs.declared.hit_policy.HitPolicy.{HitPolicy}
use Rattle.dmn_table.specs.declared.hit_policy.HitPolicy.TheVariants.{Unique, Any, Priority, First, OutputOrder, RuleOrder, Collect, Sum, Least, Greatest, Count}
use Rattle.dmn_table.specs.Table.{Column, Rule, Table}

abbrev pub policy_number : HitPolicy → ℕ
policy_number Unique = 0
policy_number Any = 1
policy_number Priority = 2
policy_number First = 3
policy_number OutputOrder = 4
policy_number RuleOrder = 5
policy_number Collect = 6
policy_number Sum = 7
policy_number Least = 8
policy_number Greatest = 9
policy_number Count = 10

abbrev pub policy_from : ℕ → HitPolicy
policy_from n =
    if n == 0 then Unique
    else if n == 1 then Any
    else if n == 2 then Priority
    else if n == 3 then First
    else if n == 4 then OutputOrder
    else if n == 5 then RuleOrder
    else if n == 6 then Collect
    else if n == 7 then Sum
    else if n == 8 then Least
    else if n == 9 then Greatest
    else Count

pub policy_back : (p : HitPolicy) → policy_from (policy_number p) ≡ p
policy_back Unique = refl
policy_back Any = refl
policy_back Priority = refl
policy_back First = refl
policy_back OutputOrder = refl
policy_back RuleOrder = refl
policy_back Collect = refl
policy_back Sum = refl
policy_back Least = refl
policy_back Greatest = refl
policy_back Count = refl

abbrev pub policy_code : Coded HitPolicy
policy_code = code_by ℕ coded_ℕ policy_number policy_from policy_back

abbrev pub column_code : Coded Column
column_code =
    code_by (List ℕ × (List Datum × Option Expr)) (coded× (coded_list coded_ℕ) (coded× (coded_list datum_code) (coded_option expr_code)))
    (λ c. (c.name, (c.values, c.fallback))) (λ p. record { name = p.0; values = p.1.0; fallback = p.1.1 }) (λ _. refl)

abbrev pub rule_code : Coded Rule
rule_code =
    code_by (List Tests × List Expr) (coded× (coded_list tests_code) (coded_list expr_code))
    (λ r. (r.tests, r.gives)) (λ p. record { tests = p.0; gives = p.1 }) (λ _. refl)

abbrev pub table_code : Coded Table
table_code =
    code_by (HitPolicy × (List Expr × (List Column × List Rule))) (coded× policy_code (coded× (coded_list expr_code) (coded× (coded_list column_code) (coded_list rule_code))))
    (λ t. (t.policy, (t.inputs, (t.outputs, t.rules)))) (λ p. record { policy = p.0; inputs = p.1.0; outputs = p.1.1.0; rules = p.1.1.1 }) (λ _. refl)
