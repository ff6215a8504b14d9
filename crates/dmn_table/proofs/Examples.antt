-- Worked tables, by computation.
use Rattle.std.proofs.Common.{◌≡◌, ℕ, List, [], ◌∷◌, refl, Option, None, Some, pos, map}
use Rattle.std.specs.Prelude.{codes}
use Rattle.feel_value.specs.Datum.{Datum, null, number, text, list, context, items_of, entries_of}
use Rattle.feel_value.specs.declared.feel.Outcome.TheVariants.{Is, Limit}
use Rattle.feel_text.specs.Expr.{Expr, Null, Number, Text, Name as name, Negate, Binary}
use Rattle.feel_text.specs.declared.expr.Operator.TheVariants.{Add}
use Rattle.feel_text.specs.Meaning.{Bindings}
use Rattle.feel_text.specs.Tests.{Tests, Compares, Above, OneOf, Any as any}
use Rattle.dmn_table.specs.declared.hit_policy.HitPolicy.{HitPolicy}
use Rattle.dmn_table.specs.declared.hit_policy.HitPolicy.TheVariants.{Unique, Any, Priority, First, OutputOrder, RuleOrder, Collect, Sum, Least, Greatest, Count}
use Rattle.dmn_table.specs.declared.fault.TableFault.TheVariants.{Hit, Columns, Operator}
use Rattle.dmn_table.specs.Table.{Rule, Table}
use Rattle.dmn_table.specs.Result.{table_result}
use Rattle.dmn_table.specs.Faults.{table_fault}

abbrev n : ℕ → Datum
n k = number (pos k)

-- the expression of a number that isn't negative, or of a text
abbrev value : Datum → Expr
value (number (pos k)) = Number k
value (text bytes) = Text bytes
value _ = Null

-- the test `> e`
abbrev above : Expr → Tests
above e = OneOf (Compares Above e ∷ [])

abbrev at_a : ℕ → Bindings
at_a k = (codes "a", n k) ∷ []

abbrev high : Datum
high = text (codes "HIGH")

abbrev low : Datum
low = text (codes "LOW")

abbrev row : Tests → Datum → Rule
row t d = record { tests = t ∷ []; gives = value d ∷ [] }

-- two rules, the second of which has the higher output
abbrev ranked : HitPolicy → Table
ranked p = record { policy = p; inputs = name (codes "a") ∷ []; outputs = record { name = codes "r"; values = high ∷ low ∷ []; fallback = None } ∷ []; rules = row (above (value (n 0))) low ∷ row (above (value (n 1))) high ∷ [] }

unique_two : table_result (ranked Unique) (at_a 2) ≡ Is null
unique_two = refl

unique_one : table_result (ranked Unique) (at_a 1) ≡ Is low
unique_one = refl

any_two : table_result (ranked Any) (at_a 2) ≡ Is null
any_two = refl

priority_two : table_result (ranked Priority) (at_a 2) ≡ Is high
priority_two = refl

first_two : table_result (ranked First) (at_a 2) ≡ Is low
first_two = refl

output_order_two : table_result (ranked OutputOrder) (at_a 2) ≡ Is (list (items_of (high ∷ low ∷ [])))
output_order_two = refl

output_order_one : table_result (ranked OutputOrder) (at_a 1) ≡ Is (list (items_of (low ∷ [])))
output_order_one = refl

rule_order_two : table_result (ranked RuleOrder) (at_a 2) ≡ Is (list (items_of (low ∷ high ∷ [])))
rule_order_two = refl

count_two : table_result (ranked Count) (at_a 2) ≡ Is (n 2)
count_two = refl

sum_of_texts : table_result (ranked Sum) (at_a 2) ≡ Is null
sum_of_texts = refl

no_hit : table_result (ranked OutputOrder) (at_a 0) ≡ Is null
no_hit = refl

-- three rules that give 10, 5 and 10
abbrev three : HitPolicy → Option Expr → Table
three p e = record { policy = p; inputs = name (codes "a") ∷ []; outputs = record { name = codes "r"; values = []; fallback = e } ∷ []; rules = row (above (value (n 0))) (n 10) ∷ row (above (value (n 0))) (n 5) ∷ row (above (value (n 0))) (n 10) ∷ [] }

sum_three : table_result (three Sum None) (at_a 1) ≡ Is (n 25)
sum_three = refl

least_three : table_result (three Least None) (at_a 1) ≡ Is (n 5)
least_three = refl

greatest_three : table_result (three Greatest None) (at_a 1) ≡ Is (n 10)
greatest_three = refl

count_three : table_result (three Count None) (at_a 1) ≡ Is (n 3)
count_three = refl

list_three : table_result (three RuleOrder None) (at_a 1) ≡ Is (list (items_of (n 10 ∷ n 5 ∷ n 10 ∷ [])))
list_three = refl

any_three : table_result (three Any None) (at_a 1) ≡ Is null
any_three = refl

default_alone : map (λ p. table_result (three p (Some (value (n 0)))) (at_a 0)) (Unique ∷ Any ∷ Priority ∷ First ∷ OutputOrder ∷ RuleOrder ∷ Collect ∷ Sum ∷ Least ∷ Greatest ∷ Count ∷ []) ≡ map (λ (p : HitPolicy). Is (n 0)) (Unique ∷ Any ∷ Priority ∷ First ∷ OutputOrder ∷ RuleOrder ∷ Collect ∷ Sum ∷ Least ∷ Greatest ∷ Count ∷ [])
default_alone = refl

-- four rules over two output columns
abbrev both : Datum → ℕ → Rule
both d k = record { tests = any ∷ []; gives = value d ∷ value (n k) ∷ [] }

abbrev pair : Datum → ℕ → Datum
pair d k = context (entries_of ((codes "r", d) ∷ (codes "q", n k) ∷ []))

abbrev four : HitPolicy → List Rule → Option Expr → Table
four p rs e = record { policy = p; inputs = name (codes "a") ∷ []; outputs = record { name = codes "r"; values = high ∷ low ∷ []; fallback = None } ∷ record { name = codes "q"; values = n 1 ∷ n 2 ∷ []; fallback = e } ∷ []; rules = rs }

abbrev four_rules : List Rule
four_rules = both low 1 ∷ both high 2 ∷ both high 1 ∷ both (text (codes "X")) 1 ∷ []

priority_four : table_result (four Priority four_rules None) (at_a 1) ≡ Is (pair high 1)
priority_four = refl

output_order_four : table_result (four OutputOrder four_rules None) (at_a 1) ≡ Is (list (items_of (pair high 1 ∷ pair high 2 ∷ pair low 1 ∷ pair (text (codes "X")) 1 ∷ [])))
output_order_four = refl

first_four : table_result (four First four_rules None) (at_a 1) ≡ Is (pair low 1)
first_four = refl

unique_four : table_result (four Unique four_rules None) (at_a 1) ≡ Is null
unique_four = refl

collect_four : table_result (four Collect four_rules None) (at_a 1) ≡ Is (list (items_of (pair low 1 ∷ pair high 2 ∷ pair high 1 ∷ pair (text (codes "X")) 1 ∷ [])))
collect_four = refl

no_rules : table_result (four Priority [] (Some (value (n 7)))) (at_a 1) ≡ Is (context (entries_of ((codes "r", null) ∷ (codes "q", n 7) ∷ [])))
no_rules = refl

-- limits: an entry after a miss counts, an output of a rule that misses does not, and a sum counts at its end alone
abbrev past : Expr
past = Binary Add (Number 9223372036854775807) (Number 1)

abbrev over_a : HitPolicy → List Rule → Option Expr → Table
over_a p rs e = record { policy = p; inputs = name (codes "a") ∷ name (codes "a") ∷ []; outputs = record { name = codes "r"; values = []; fallback = e } ∷ []; rules = rs }

abbrev rule_of : Tests → Tests → Expr → Rule
rule_of s t e = record { tests = s ∷ t ∷ []; gives = e ∷ [] }

limit_after_a_miss : table_result (over_a Unique (rule_of (above (Number 9)) (above past) (Number 1) ∷ []) None) (at_a 1) ≡ Limit
limit_after_a_miss = refl

output_of_a_miss : table_result (over_a Unique (rule_of (above (Number 9)) any past ∷ []) None) (at_a 1) ≡ Is null
output_of_a_miss = refl

output_of_a_hit : table_result (over_a Count (rule_of any any past ∷ []) None) (at_a 1) ≡ Limit
output_of_a_hit = refl

default_past : table_result (over_a Collect [] (Some past)) (at_a 1) ≡ Limit
default_past = refl

default_unused : table_result (over_a First (rule_of any any (Number 3) ∷ []) (Some past)) (at_a 1) ≡ Is (n 3)
default_unused = refl

sum_past : table_result (over_a Sum (rule_of any any (Number 9223372036854775807) ∷ rule_of any any (Number 1) ∷ []) None) (at_a 1) ≡ Limit
sum_past = refl

sum_back : table_result (over_a Sum (rule_of any any (Number 9223372036854775807) ∷ rule_of any any (Number 5) ∷ rule_of any any (Negate (Number 5)) ∷ []) None) (at_a 1) ≡ Is (n 9223372036854775807)
sum_back = refl

-- refusals, in their order
unknown_policy : table_fault (codes "X") 1 (codes "r" ∷ []) ((2, 1) ∷ []) ≡ Some Hit
unknown_policy = refl

wrong_rule : table_fault (codes "U") 1 (codes "r" ∷ []) ((2, 1) ∷ []) ≡ Some Columns
wrong_rule = refl

wrong_rule_before_operator : table_fault (codes "C+") 1 (codes "r" ∷ codes "q" ∷ []) ((2, 2) ∷ []) ≡ Some Columns
wrong_rule_before_operator = refl

operator_over_two : table_fault (codes "C+") 1 (codes "r" ∷ codes "q" ∷ []) ((1, 2) ∷ []) ≡ Some Operator
operator_over_two = refl

lawful_four : table_fault (codes "P") 1 (codes "r" ∷ codes "q" ∷ []) ((1, 2) ∷ (1, 2) ∷ []) ≡ None
lawful_four = refl
