-- Output entries that always have the same value, or never.
use Rattle.std.proofs.Common.{◌≡◌, ◌∙◌, ◌+◌, ◌<◌, ap, refl, subst, sym, ℕ, ℤ, pos, negsuc, List, [], map, length, get_or, Bool, true, false, not, ◌&&◌, if◌then◌else◌, Option, None, Some, option_map, arith, below_more}
use Rattle.std.specs.Prelude.{nat_le, unsigned_abs, ◌-ℤ◌}
use Rattle.std.specs.List.{slice_get}
use Rattle.std.proofs.lemmas.Int.{ints}
use Rattle.std.proofs.lemmas.Option.{same_Some, slice_get-map, slice_get_read, slice_get_within}
use Rattle.feel_value.specs.Comparison.{equal}
use Rattle.feel_value.specs.Datum.{Datum, null, number}
use Rattle.feel_value.specs.Found.{value_of}
use Rattle.feel_value.specs.Limits.{greatest_number, in_range, keeps_size, names_distinct}
use Rattle.feel_value.specs.Logic.{is_yes}
use Rattle.feel_value.specs.Outcome.{held}
use Rattle.feel_value.specs.declared.feel.Outcome.TheVariants.{Is, Limit}
use Rattle.feel_value.proofs.Laws.{equal_itself}
use Rattle.feel_text.specs.Constants.{expr_of_constant}
use Rattle.feel_text.specs.Expr as expr
use Rattle.feel_text.specs.Expr.{Expr}
use Rattle.feel_text.specs.Meaning.{Bindings, den, of_number, with_value}
use Rattle.feel_text.proofs.WithinLimits.{literal_of_value}
use Rattle.dmn_table.specs.Parts.{rule_view}
use Rattle.dmn_table.specs.Table.{Rule}
use Rattle.dmn_table.specs.declared.table.Rule as code
use Rattle.desk_checking.specs.Literals.{HasValue, TellsLiteral, TellsPair}
use Rattle.desk_checking.specs.Outputs.{AreEntries, AreEqual, AreSame}

-- ---- literals

held_number : (z : ℤ) → in_range z ≡ true → held (number z) ≡ Is (number z)
held_number z e = ap (λ b. if (b && keeps_size (number z)) && names_distinct (number z) then Is (number z) else Limit) e

same_size : (n : ℕ) → unsigned_abs (pos 0 -ℤ pos n) ≡ n
same_size n = omega (arith, ints)

opposite_in_range : (n : ℕ) → nat_le n greatest_number ≡ true → in_range (pos 0 -ℤ pos n) ≡ true
opposite_in_range n h = rw same_size h

-- what has a literal's value, has its opposite behind a `-`
pub opposite_is : (z : ℤ) → HasValue (expr_of_constant (number z)) (number z) → HasValue (expr.Negate (expr_of_constant (number z))) (number (pos 0 -ℤ z))
opposite_is (pos n) h = λ m.
    ap (λ o. with_value o (λ d. held (of_number (λ x. number (pos 0 -ℤ x)) d))) (h m) ∙ held_number (pos 0 -ℤ pos n) (opposite_in_range n (literal_of_value (number (pos n)) h))
opposite_is (negsuc n) h = λ m. let wrong : Is null ≡ Is (number (negsuc n)) = h [] in let no : ⊥ = cc in absurd no

value_there : (e : Expr) (v w : Datum) (m : Bindings) → HasValue e v → value_of (den e m) ≡ Some w → v ≡ w
value_there e v w m h k = same_Some v w (sym (ap value_of (h m)) ∙ k)

pub both_known : (e f : Expr) (v w : Datum) → HasValue e v → HasValue f w → AreEqual e f (is_yes (equal v w))
both_known e f v w h k = λ m x y p q. sym (ap (λ (d : Datum). is_yes (equal d w)) (value_there e v x m h p) ∙ ap (λ (d : Datum). is_yes (equal x d)) (value_there f w y m k q))

twice_not : (b : Bool) → not (not b) ≡ b
twice_not true = refl
twice_not false = refl

-- an expression of a known value, and another one
pub pair_told : (e f : Expr) (v : Datum) (answer : Option Bool) → HasValue e v → TellsLiteral v f answer → TellsPair e f answer
pair_told e f v None h told = tt
pair_told e f v (Some differs) h told =
    subst (AreEqual e f) (sym (ap not told.2 ∙ twice_not (is_yes (equal v told.0)))) (both_known e f v told.0 h told.1)

-- the same expression
pub same_told : (e f : Expr) → e ≡ f → AreEqual e f true
same_told e f same = λ m v w p q.
    ap is_yes (ap (equal v) (sym (same_Some v w (sym p ∙ ap (λ (x : Expr). value_of (den x m)) same ∙ q))) ∙ equal_itself v)

-- ---- entries, column by column

pub record AreSameBelow (n : ℕ) (es fs : List Expr) : Type 0 where
  pub each : (k : ℕ) → k < n → (e f : Expr) → AreEntries es fs k e f → AreEqual e f true

pub none_below : (es fs : List Expr) → AreSameBelow 0 es fs
none_below es fs = record { each = λ k h e f at. absurd (omega arith) }

same_entries : (es fs : List Expr) (n : ℕ) (a b : Expr) → AreEntries es fs n a b → AreEqual a b true → (e f : Expr) → AreEntries es fs n e f → AreEqual e f true
same_entries es fs n a b at same e f here =
    subst (λ (x : Expr). AreEqual x f true) (same_Some a e (sym at.one ∙ here.one)) (subst (λ (x : Expr). AreEqual a x true) (same_Some b f (sym at.other ∙ here.other)) same)

pub one_below : (n : ℕ) (es fs : List Expr) (a b : Expr) → AreSameBelow n es fs → AreEntries es fs n a b → AreEqual a b true → AreSameBelow (n + 1) es fs
one_below n es fs a b below at same = record { each = below_more (λ k. (e f : Expr) → AreEntries es fs k e f → AreEqual e f true) n below.each (same_entries es fs n a b at same) }

pub all_below : (n : ℕ) (es fs : List Expr) → AreSameBelow n es fs → length es ≡ n → AreSame es fs
all_below n es fs below all = λ column e f at. below.each column (subst (λ k. column < k) all (slice_get_within es column e at.one)) e f at

-- ---- rules of a table

pub rule_at : (rules : List code.Rule) (i : ℕ) (x : code.Rule) (r : Rule) → i < length rules → x ≡ get_or rules i x → slice_get (map rule_view rules) i ≡ Some r → rule_view x ≡ r
rule_at rules i x r within here there =
    same_Some (rule_view x) r (sym (slice_get-map rule_view rules i ∙ ap (option_map rule_view) (slice_get_read rules (length rules) i x refl within here)) ∙ there)
