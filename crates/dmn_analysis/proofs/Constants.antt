-- Tests of constants break no limit.
use Rattle.std.proofs.Common.{◌≡◌, ◌∙◌, sym, ap, refl, ℕ, suc, ◌<◌, pos, List, [], ◌∷◌, length, get_or, map, Bool, true, false, ◌&&◌, IsTrue, Option, Some}
use Rattle.std.specs.Prelude.{◌-ℤ◌, ◌≢◌, ◌||◌}
use Rattle.std.specs.List.{list_all, slice_get, zip}
use Rattle.std.proofs.lemmas.List.Folds.{list_all_at}
use Rattle.feel_value.specs.Datum.{Datum, null, boolean, number, text}
use Rattle.feel_value.specs.Found.{each, ◌>>=◌}
use Rattle.feel_value.specs.Logic.{and_of, or_of, not_of, decided, is_yes}
use Rattle.feel_value.specs.Outcome.{held}
use Rattle.feel_value.specs.declared.feel.Outcome.{Outcome}
use Rattle.feel_value.specs.declared.feel.Outcome.TheVariants.{Is, Limit}
use Rattle.feel_value.specs.declared.logic.Truth.{Truth}
use Rattle.feel_value.specs.declared.logic.Truth.TheVariants.{Yes, No}
use Rattle.feel_text.specs.Expr as expr
use Rattle.feel_text.specs.Expr.{Expr}
use Rattle.feel_text.specs.Meaning.{Bindings, den, of_number, operation, with_value, with_values}
use Rattle.feel_text.specs.Satisfied.{Answer, Broken, Told, answer, high_bound, is_in, joined, low_bound, opposite_answer, satisfied, stands_to, tested, tested_any}
use Rattle.feel_text.specs.TestsView.{test_view}
use Rattle.feel_text.specs.declared.unary.Test as code
use Rattle.feel_text.specs.Tests.{Test, Compares, Interval, Equals, Tests, Any, OneOf, NoneOf}
use Rattle.dmn_table.specs.Hits.{does_hit, is_satisfied}
use Rattle.dmn_table.specs.Table.{Rule}
use Rattle.dmn_analysis.specs.Constant.{bare, has_value, is_arithmetic, is_constant, is_constant_test, is_literal, is_number, is_scalar, is_sum}
use Rattle.dmn_analysis.proofs.Folding.{bare_means}

-- ---- truth values

both : (a b : Bool) → (a && b) ≡ true → (a ≡ true) × (b ≡ true)
both true true e = (refl, refl)
both true false e = cc
both false b e = cc

pub not_both : (b : Bool) → b ≡ false → b ≡ true → ⊥
not_both true e f = cc
not_both false e f = cc

-- ---- literals

-- an expression that has this value whatever the names stand for
abbrev pub HasValue : Expr → Type 0
HasValue e = (d : Datum) × ((m : Bindings) → den e m ≡ Is d)

scalar_value : (e : Expr) → is_scalar e ≡ true → HasValue e
scalar_value expr.Null h = (null, λ m. refl)
scalar_value (expr.Boolean b) h = (boolean b, λ m. refl)
scalar_value (expr.Text s) h = (text s, λ m. refl)
scalar_value (expr.Number n) h = cc
scalar_value (expr.Name n) h = cc
scalar_value (expr.Group e) h = cc
scalar_value (expr.Members es) h = cc
scalar_value (expr.Call f e) h = cc
scalar_value (expr.Modulo a b) h = cc
scalar_value (expr.Not e) h = cc
scalar_value (expr.Negate e) h = cc
scalar_value (expr.Path e n) h = cc
scalar_value (expr.Binary op a b) h = cc
scalar_value (expr.Between e a b) h = cc
scalar_value (expr.If t a b) h = cc

-- what numbers are worked out of has the same value whatever the names stand for
sum_same : (e : Expr) (m : Bindings) → is_sum e ≡ true → den e m ≡ den e []
sum_same (expr.Number n) m h = refl
sum_same (expr.Group e) m h = sum_same e m h
sum_same (expr.Negate e) m h = ap (λ o. with_value o (λ d. held (of_number (λ x. number (pos 0 -ℤ x)) d))) (sum_same e m h)
sum_same (expr.Binary op a b) m h =
    let first = both (is_arithmetic op) (is_sum a && is_sum b) h in
    let parts = both (is_sum a) (is_sum b) first.1 in
    ap (λ o. with_values o (den b m) (λ d e. held (operation op d e))) (sum_same a m parts.0) ∙ ap (λ o. with_values (den a []) o (λ d e. held (operation op d e))) (sum_same b m parts.1)
sum_same expr.Null m h = cc
sum_same (expr.Boolean b) m h = cc
sum_same (expr.Text s) m h = cc
sum_same (expr.Name n) m h = cc
sum_same (expr.Members es) m h = cc
sum_same (expr.Call f e) m h = cc
sum_same (expr.Modulo a b) m h = cc
sum_same (expr.Not e) m h = cc
sum_same (expr.Path e n) m h = cc
sum_same (expr.Between e a b) m h = cc
sum_same (expr.If t a b) m h = cc

value_in : (o : Outcome) → has_value o ≡ true → (d : Datum) × (o ≡ Is d)
value_in (Is d) h = (d, refl)
value_in Limit h = cc

number_value : (e : Expr) → is_number e ≡ true → HasValue e
number_value e h =
    let parts = both (is_sum e) (has_value (den e [])) h in
    let value = value_in (den e []) parts.1 in
    (value.0, λ m. sum_same e m parts.0 ∙ value.1)

literal_value : (e : Expr) → is_literal e ≡ true → HasValue e
literal_value e h = go (is_scalar (bare e)) refl h
  where
    go : (b : Bool) → is_scalar (bare e) ≡ b → (b || is_number e) ≡ true → HasValue e
    go true scalar h = let value = scalar_value (bare e) scalar in (value.0, λ m. sym (bare_means e m) ∙ value.1 m)
    go false scalar h = number_value e h

-- ---- tests

-- tests that all are constant, of which one is told not to be
pub not_all_true : {X : Type 0} (p : X → Bool) (xs : List X) (i : ℕ) (x : X) → x ≡ get_or xs i x → i < length xs → list_all p xs ≡ true → (b : Bool) → (p x ≡ true → IsTrue b) → b ≡ false → ⊥
not_all_true p xs i x here within all true known told = cc
not_all_true p xs i x here within all false known told = go (p x) refl
  where
    go : (a : Bool) → p x ≡ a → ⊥
    go true e = let wrong : false ≡ true = known e in cc
    go false e = let wrong : true ≡ false = sym all ∙ list_all_at p xs i x within (ap p (sym here) ∙ e) in cc

pub views_constant : (tests : List code.Test) → list_all is_constant_test (map test_view tests) ≡ list_all (λ t. is_constant_test (test_view t)) tests
views_constant [] = refl
views_constant (t ∷ ts) = ap (λ b. is_constant_test (test_view t) && b) (views_constant ts)

abbrev pub IsTold : Answer → Type 0
IsTold a = (t : Truth) × (a ≡ Told t)

answered : (e : Expr) (f : Datum → Truth) (m : Bindings) → HasValue e → IsTold (answer (den e m) f)
answered e f m h = (f h.0, ap (λ o. answer o f) (h.1 m))

joined_told : (f : Truth → Truth → Truth) (a b : Answer) → IsTold a → IsTold b → IsTold (joined f a b)
joined_told f a b h k = (f h.0 k.0, ap (λ x. joined f x b) h.1 ∙ ap (joined f (Told h.0)) k.1)

test_told : (t : Test) (v : Datum) (m : Bindings) → is_constant_test t ≡ true → IsTold (tested t v m)
test_told (Compares bound e) v m h = answered e (stands_to bound v) m (literal_value e h)
test_told (Interval c low high d) v m h =
    let parts = both (is_literal low) (is_literal high) h in
    joined_told and_of (answer (den low m) (stands_to (low_bound c) v)) (answer (den high m) (stands_to (high_bound d) v)) (answered low (stands_to (low_bound c) v) m (literal_value low parts.0))
    (answered high (stands_to (high_bound d) v) m (literal_value high parts.1))
test_told (Equals e) v m h = answered e (λ d. decided (is_in v d)) m (literal_value e h)

any_told : (ts : List Test) (v : Datum) (m : Bindings) → list_all is_constant_test ts ≡ true → IsTold (tested_any ts v m)
any_told [] v m h = (No, refl)
any_told (t ∷ ts) v m h =
    let parts = both (is_constant_test t) (list_all is_constant_test ts) h in
    joined_told or_of (tested t v m) (tested_any ts v m) (test_told t v m parts.0) (any_told ts v m parts.1)

told : (t : Tests) (v : Datum) (m : Bindings) → is_constant t ≡ true → IsTold (satisfied t v m)
told Any v m h = (Yes, refl)
told (OneOf ts) v m h = any_told ts v m h
told (NoneOf ts) v m h = let a = any_told ts v m h in (not_of a.0, ap opposite_answer a.1)

-- ---- rules

all_told : (m : Bindings) (tests : List Tests) (values : List Datum) → ((k : ℕ) (t : Tests) → slice_get tests k ≡ Some t → is_constant t ≡ true)
    → (ys : List Bool) × (each (λ p. is_satisfied (satisfied p.0 p.1 m)) (zip tests values) ≡ Some ys)
all_told m [] values h = ([], refl)
all_told m (t ∷ ts) [] h = ([], refl)
all_told m (t ∷ ts) (v ∷ vs) h =
    let a = told t v m (h 0 t refl) in
    let rest = all_told m ts vs (λ k u here. h (suc k) u here) in
    let answer : is_satisfied (satisfied t v m) ≡ Some (is_yes a.0) = ap is_satisfied a.1 in (
      is_yes a.0 ∷ rest.0,
      ap (λ o. o >>= λ y. each (λ p. is_satisfied (satisfied p.0 p.1 m)) (zip ts vs) >>= λ ys. Some (y ∷ ys)) answer ∙ ap (λ o. o >>= λ ys. Some (is_yes a.0 ∷ ys)) rest.1,
    )

answers_not_yes : (o : Option Bool) → (b : Bool) → o ≡ Some b → o ≢ Some true → o ≡ Some false
answers_not_yes o true e h = absurd (h e)
answers_not_yes o false e h = e

-- a rule of constant tests that doesn't hit misses
pub misses : (m : Bindings) (values : List Datum) (r : Rule) → ((k : ℕ) (t : Tests) → slice_get r.tests k ≡ Some t → is_constant t ≡ true) → does_hit m values r ≢ Some true → does_hit m values r ≡ Some false
misses m values r constant h =
    let a = all_told m r.tests values constant in
    answers_not_yes (does_hit m values r) (list_all (λ yes. yes) a.0) (ap (λ o. o >>= λ answers. Some (list_all (λ yes. yes) answers)) a.1) h

-- constant tests break no limit
pub never_broken : (t : Tests) (v : Datum) (m : Bindings) → is_constant t ≡ true → satisfied t v m ≢ Broken
never_broken t v m h broken = let a = told t v m h in let wrong : Told a.0 ≡ Broken = sym a.1 ∙ broken in cc
