-- What reading a table tells of it as it is written.
use Rattle.std.proofs.Common.{◌≡◌, ℕ, List, map, length, refl, ap, ap₂, ◌∙◌, subst, Bool, true, false, ◌||◌, Option, None, Some}
use Rattle.std.specs.Option.{is_none, is_some}
use Rattle.feel_text.specs.Expr.{Expr}
use Rattle.feel_text.specs.Tests.{Tests}
use Rattle.feel_text.specs.Readings.{expr_of, tests_of, literal_of}
use Rattle.feel_value.specs.Datum.{Datum}
use Rattle.dmn_table.specs.declared.fault.TableFault.{TableFault}
use Rattle.dmn_table.specs.declared.hit_policy.HitPolicy.{HitPolicy}
use Rattle.feel_value.specs.Found.{◌>>=◌, each}
use Rattle.dmn_table.specs.Faults.{policy_of, table_fault, fault_under}
use Rattle.dmn_table.specs.Table.{Column, Rule}
use Rattle.dmn_form.specs.Draft.{WrittenColumn, WrittenRule, WrittenTable}
use Rattle.dmn_logic.specs.Faults.{is_unread_table, is_refused}
use Rattle.dmn_logic.specs.ReadLogic.{read_if, read_column, read_rule, read_table}
use Rattle.dmn_logic.specs.Reading.{unless_unread, made_under, made_table, table_reading}
use Rattle.dmn_logic.specs.declared.reading.Reading.{Reading}
use Rattle.dmn_logic.specs.declared.reading.Reading.TheVariants.{Found, Refused, Unread}
use Rattle.dmn_logic.proofs.Unread.{none_of_each, none_of_columns, none_of_rules, each_same, each_length}

-- What reading gave tells whether a text has no reading, whether a table is refused where each has one, and what was read.
abbrev pub Tells : {X : Type 0} → Reading X → Bool → Bool → Option X → Type 0
Tells (Found x) unread refused o = (unread ≡ false) × (refused ≡ false) × (o ≡ Some x)
Tells Refused unread refused o = (unread ≡ false) × (refused ≡ true)
Tells Unread unread refused o = unread ≡ true

-- ---- the parts keep their numbers and names

name_in : (o : Option (List Datum)) (p : Option (Option Expr)) (n : List ℕ) (k : Column)
    → (o >>= λ values. p >>= λ fallback. Some (record { name = n; values = values; fallback = fallback })) ≡ Some k → k.name ≡ n
name_in None p n k e = cc
name_in (Some vs) None n k e = cc
name_in (Some vs) (Some f) n k e = cc

name_kept : (c : WrittenColumn) (k : Column) → read_column c ≡ Some k → k.name ≡ c.name
name_kept c k e = name_in (each literal_of c.values) (read_if c.fallback) c.name k e

abbrev pub counts_of : Rule → ℕ × ℕ
counts_of r = (length r.tests, length r.gives)

abbrev pub written_counts : WrittenRule → ℕ × ℕ
written_counts r = (length r.tests, length r.gives)

abbrev pub pair : ℕ → ℕ → ℕ × ℕ
pair i j = (i, j)

counts_in : (o : Option (List Tests)) (p : Option (List Expr)) (i j : ℕ) (r : Rule) → ((ts : List Tests) → o ≡ Some ts → length ts ≡ i) → ((es : List Expr) → p ≡ Some es → length es ≡ j)
    → (o >>= λ tests. p >>= λ gives. Some (record { tests = tests; gives = gives })) ≡ Some r → counts_of r ≡ pair i j
counts_in None p i j r first rest e = cc
counts_in (Some ts) None i j r first rest e = cc
counts_in (Some ts) (Some es) i j r first rest e =
    let same : r ≡ record { tests = ts; gives = es } = cc in
    ap counts_of same ∙ ap₂ pair (first ts refl) (rest es refl)

counts_kept : (w : WrittenRule) (r : Rule) → read_rule w ≡ Some r → counts_of r ≡ written_counts w
counts_kept w r e =
    counts_in (each tests_of w.tests) (each expr_of w.gives) (length w.tests) (length w.gives) r (each_length tests_of w.tests) (each_length expr_of w.gives) e

-- ---- the table of the parts

made_of : (f : Option TableFault) (p : HitPolicy) (inputs : List Expr) (outputs : List Column) (rules : List Rule)
    → Tells (made_under f (Some p) inputs outputs rules) false (is_some f) (Some (record { policy = p; inputs = inputs; outputs = outputs; rules = rules }))
made_of None p inputs outputs rules = (refl, refl, refl)
made_of (Some f) p inputs outputs rules = (refl, refl)

made_by : (o : Option HitPolicy) (n : ℕ) (names : List (List ℕ)) (counts : List (ℕ × ℕ)) (inputs : List Expr) (outputs : List Column) (rules : List Rule)
    → Tells (made_under (fault_under o n names counts) o inputs outputs rules) false (is_some (fault_under o n names counts))
    (o >>= λ policy. Some (record { policy = policy; inputs = inputs; outputs = outputs; rules = rules }))
made_by None n names counts inputs outputs rules = (refl, refl)
made_by (Some p) n names counts inputs outputs rules = made_of (fault_under (Some p) n names counts) p inputs outputs rules

made_tells : (t : WrittenTable) (inputs : List Expr) (outputs : List Column) (rules : List Rule)
    → each expr_of t.inputs ≡ Some inputs → each read_column t.outputs ≡ Some outputs → each read_rule t.rules ≡ Some rules
    → Tells (made_table t.hit inputs outputs rules) false (is_refused t) (policy_of t.hit >>= λ policy. Some (record { policy = policy; inputs = inputs; outputs = outputs; rules = rules }))
made_tells t inputs outputs rules a b c =
    let counts : map counts_of rules ≡ map written_counts t.rules =
    each_same read_rule counts_of written_counts counts_kept t.rules rules c in
    let names : map (λ (k : Column). k.name) outputs ≡ map (λ (k : WrittenColumn). k.name) t.outputs = each_same read_column (λ k. k.name) (λ w. w.name) name_kept t.outputs outputs b in
    let fault : table_fault t.hit (length inputs) (map (λ (k : Column). k.name) outputs) (map counts_of rules)
    ≡ table_fault t.hit (length t.inputs) (map (λ (k : WrittenColumn). k.name) t.outputs) (map written_counts t.rules) =
    ap₂ (λ n ns. table_fault t.hit n ns (map counts_of rules)) (each_length expr_of t.inputs inputs a) names
    ∙ ap (λ cs. table_fault t.hit (length t.inputs) (map (λ (k : WrittenColumn). k.name) t.outputs) cs) counts in
    subst (λ f. Tells (made_table t.hit inputs outputs rules) false (is_some f) (policy_of t.hit >>= λ policy. Some (record { policy = policy; inputs = inputs; outputs = outputs; rules = rules }))) fault
    (made_by (policy_of t.hit) (length inputs) (map (λ k. k.name) outputs) (map counts_of rules) inputs outputs rules)

table_in : (t : WrittenTable) (a : Option (List Expr)) (b : Option (List Column)) (c : Option (List Rule)) → each expr_of t.inputs ≡ a → each read_column t.outputs ≡ b → each read_rule t.rules ≡ c
    → Tells (unless_unread a (λ inputs. unless_unread b (λ outputs. unless_unread c (λ rules. made_table t.hit inputs outputs rules))))
    (is_none a || (is_none b || is_none c)) (is_refused t)
    (a >>= λ inputs. b >>= λ outputs. c >>= λ rules. policy_of t.hit >>= λ policy. Some (record { policy = policy; inputs = inputs; outputs = outputs; rules = rules }))
table_in t None b c x y z = refl
table_in t (Some inputs) None c x y z = refl
table_in t (Some inputs) (Some outputs) None x y z = refl
table_in t (Some inputs) (Some outputs) (Some rules) x y z = made_tells t inputs outputs rules x y z

pub table_tells : (t : WrittenTable) → Tells (table_reading t) (is_unread_table t) (is_refused t) (read_table t)
table_tells t =
    let unread : (is_none (each expr_of t.inputs) || (is_none (each read_column t.outputs) || is_none (each read_rule t.rules))) ≡ is_unread_table t =
    ap₂ (λ a b. a || b) (none_of_each expr_of t.inputs) (ap₂ (λ a b. a || b) (none_of_columns t.outputs) (none_of_rules t.rules)) in
    subst (λ u. Tells (table_reading t) u (is_refused t) (read_table t)) unread
    (table_in t (each expr_of t.inputs) (each read_column t.outputs) (each read_rule t.rules) refl refl refl)
