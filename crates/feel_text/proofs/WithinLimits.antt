-- What is known to break no limit breaks none.
use Rattle.std.proofs.Common.{◌≡◌, ◌≢◌, ◌∙◌, sym, ap, refl, ℕ, ℤ, pos, negsuc, ◌-ℤ◌, Bool, true, false, true≢false, ◌&&◌, List, [], ◌∷◌, unsigned_abs, if◌then◌else◌, rules, arith}
use Rattle.std.specs.List.{list_all}
use Rattle.std.proofs.lemmas.Int.{ints}
use Rattle.std.proofs.lemmas.List.Folds.{list_all-map}
use Rattle.feel_value.proofs.Booleans.{both_true}
use Rattle.feel_value.specs.Comparison.{equal, less}
use Rattle.feel_value.specs.Datum.{Datum, null, boolean, number, text, list, context}
use Rattle.feel_value.specs.Limits.{in_range, is_value}
use Rattle.feel_value.specs.Logic.{is_yes, and_of, or_of, not_of, truth_of, truth_datum}
use Rattle.feel_value.specs.Outcome.{held}
use Rattle.feel_value.specs.declared.feel.Outcome.{Outcome}
use Rattle.feel_value.specs.declared.feel.Outcome.TheVariants.{Is, Limit}
use Rattle.feel_value.specs.declared.logic.Truth.{Truth}
use Rattle.feel_value.specs.declared.logic.Truth.TheVariants.{Yes, No, Unknown}
use Rattle.feel_text.specs.Constants.{expr_of_constant}
use Rattle.feel_text.specs.Expr.{Expr, Null, Boolean, Number, Text, Name, Group, Members, Call, Modulo, Not, Negate, Path, Binary, Between, If}
use Rattle.feel_text.specs.Meaning.{Bindings, den, with_value, with_values, operation, choice, of_number}
use Rattle.feel_text.specs.Satisfied.{Answer, Told, Broken, answer, joined, tested, tested_any, satisfied, opposite_answer}
use Rattle.feel_text.specs.Tests.{Test, Compares, Interval, Equals, Tests, Any, OneOf, NoneOf}
use Rattle.feel_text.specs.TestsView.{test_view, test_views}
use Rattle.feel_text.specs.View.{view}
use Rattle.feel_text.specs.WithinLimits.{forms_truth, is_literal, stays_within, test_stays, tests_stay}
use Rattle.feel_text.specs.declared.expr.Operator.{Operator}
use Rattle.feel_text.specs.declared.expr.Operator.TheVariants as operator
use Rattle.feel_text.specs.declared.expr.Tree.{the_lemmas}
use Rattle.feel_text.specs.declared.expr.Tree.TheVariants as tree
use Rattle.feel_text.specs.declared.unary.Test as code

-- ---- outcomes that are values

abbrev is_kept : Outcome → Bool
is_kept (Is d) = true
is_kept Limit = false

truth_kept : (t : Truth) → is_kept (held (truth_datum t)) ≡ true
truth_kept Yes = refl
truth_kept No = refl
truth_kept Unknown = refl

with_kept : (o : Outcome) (f : Datum → Outcome) → is_kept o ≡ true → ((d : Datum) → is_kept (f d) ≡ true) → is_kept (with_value o f) ≡ true
with_kept (Is d) f h k = k d
with_kept Limit f h k = cc

both_kept : (o p : Outcome) (f : Datum → Datum → Outcome) → is_kept o ≡ true → is_kept p ≡ true → ((d e : Datum) → is_kept (f d e) ≡ true) → is_kept (with_values o p f) ≡ true
both_kept (Is d) (Is e) f h i k = k d e
both_kept (Is d) Limit f h i k = cc
both_kept Limit p f h i k = cc

choice_kept : (b : Bool) (o p : Outcome) → is_kept o ≡ true → is_kept p ≡ true → is_kept (choice b o p) ≡ true
choice_kept true o p h i = h
choice_kept false o p h i = i

operation_kept : (op : Operator) (d e : Datum) → forms_truth op ≡ true → is_kept (held (operation op d e)) ≡ true
operation_kept operator.Or d e h = truth_kept (or_of (truth_of d) (truth_of e))
operation_kept operator.And d e h = truth_kept (and_of (truth_of d) (truth_of e))
operation_kept operator.Equal d e h = truth_kept (equal d e)
operation_kept operator.NotEqual d e h = truth_kept (not_of (equal d e))
operation_kept operator.Less d e h = truth_kept (less d e)
operation_kept operator.LessEqual d e h = truth_kept (not_of (less e d))
operation_kept operator.Greater d e h = truth_kept (less e d)
operation_kept operator.GreaterEqual d e h = truth_kept (not_of (less d e))
operation_kept operator.Add d e h = cc
operation_kept operator.Subtract d e h = cc
operation_kept operator.Multiply d e h = cc

-- ---- numbers

pub number_is_value : (z : ℤ) → in_range z ≡ true → is_value (number z) ≡ true
number_is_value z h = rw h refl

number_kept : (z : ℤ) → in_range z ≡ true → is_kept (held (number z)) ≡ true
number_kept z h = ap (λ (b : Bool). is_kept (if b then Is (number z) else Limit)) (number_is_value z h)

true_of_kept : (b : Bool) (d : Datum) → is_kept (if (b && true) && true then Is d else Limit) ≡ true → b ≡ true
true_of_kept true d h = refl
true_of_kept false d h = cc

kept_in_range : (z : ℤ) → is_kept (held (number z)) ≡ true → in_range z ≡ true
kept_in_range z h = true_of_kept (in_range z) (number z) h

same_size : (n : ℕ) → unsigned_abs (pos 0 -ℤ pos n) ≡ n
same_size n = omega (arith, ints)

opposite_in_range : (n : ℕ) → in_range (pos n) ≡ true → in_range (pos 0 -ℤ pos n) ≡ true
opposite_in_range n h = rw same_size h

-- ---- expressions

negative_kept : (e : Expr) (m : Bindings) → is_literal e ≡ true → is_kept (den (Negate e) m) ≡ true
negative_kept Null m h = refl
negative_kept (Boolean b) m h = refl
negative_kept (Text bytes) m h = refl
negative_kept (Number n) m h =
    ap (λ (b : Bool). is_kept (with_value (if b then Is (number (pos n)) else Limit) (λ d. held (of_number (λ x. number (pos 0 -ℤ x)) d)))) (number_is_value (pos n) h)
    ∙ number_kept (pos 0 -ℤ pos n) (opposite_in_range n h)
negative_kept (Name name) m h = cc
negative_kept (Group e) m h = cc
negative_kept (Members es) m h = cc
negative_kept (Call f e) m h = cc
negative_kept (Modulo a b) m h = cc
negative_kept (Not e) m h = cc
negative_kept (Negate e) m h = cc
negative_kept (Path e name) m h = cc
negative_kept (Binary op a b) m h = cc
negative_kept (Between e low high) m h = cc
negative_kept (If test a b) m h = cc

-- all three of them
three_true : (a b c : Bool) → (a && b && c) ≡ true → (a ≡ true) × (b ≡ true) × (c ≡ true)
three_true true true true h = (refl, refl, refl)
three_true true true false h = cc
three_true true false c h = cc
three_true false b c h = cc

expr_kept : (e : Expr) (m : Bindings) → stays_within e ≡ true → is_kept (den e m) ≡ true
expr_kept Null m h = refl
expr_kept (Boolean b) m h = refl
expr_kept (Number n) m h = number_kept (pos n) h
expr_kept (Text bytes) m h = refl
expr_kept (Name name) m h = refl
expr_kept (Group e) m h = expr_kept e m h
expr_kept (Members es) m h = cc
expr_kept (Call f e) m h = cc
expr_kept (Modulo a b) m h = cc
expr_kept (Not e) m h = with_kept (den e m) _ (expr_kept e m h) (λ d. refl)
expr_kept (Negate e) m h = negative_kept e m h
expr_kept (Path e name) m h = cc
expr_kept (Binary op a b) m h =
    let t = three_true (forms_truth op) (stays_within a) (stays_within b) h in
    both_kept (den a m) (den b m) _ (expr_kept a m t.1) (expr_kept b m t.2) (λ d e. operation_kept op d e t.0)
expr_kept (Between e low high) m h =
    let t = three_true (stays_within e) (stays_within low) (stays_within high) h in
    with_kept (den e m) _ (expr_kept e m t.0) (λ d. both_kept (den low m) (den high m) _ (expr_kept low m t.1) (expr_kept high m t.2) (λ l r. refl))
expr_kept (If test a b) m h =
    let t = three_true (stays_within test) (stays_within a) (stays_within b) h in
    with_kept (den test m) _ (expr_kept test m t.0) (λ d. choice_kept (is_yes (truth_of d)) (den a m) (den b m) (expr_kept a m t.1) (expr_kept b m t.2))

-- its evaluation breaks no limit
pub expr_within : (e : Expr) (m : Bindings) → stays_within e ≡ true → den e m ≢ Limit
expr_within e m h broken = true≢false (sym (expr_kept e m h) ∙ ap is_kept broken)

-- ---- unary tests

abbrev is_told : Answer → Bool
is_told (Told t) = true
is_told Broken = false

answer_told : (o : Outcome) (f : Datum → Truth) → is_kept o ≡ true → is_told (answer o f) ≡ true
answer_told (Is d) f h = refl
answer_told Limit f h = cc

joined_told : (f : Truth → Truth → Truth) (a b : Answer) → is_told a ≡ true → is_told b ≡ true → is_told (joined f a b) ≡ true
joined_told f (Told s) (Told t) h i = refl
joined_told f (Told s) Broken h i = cc
joined_told f Broken b h i = cc

opposite_told : (a : Answer) → is_told a ≡ true → is_told (opposite_answer a) ≡ true
opposite_told (Told t) h = refl
opposite_told Broken h = cc

test_told : (t : Test) (v : Datum) (m : Bindings) → test_stays t ≡ true → is_told (tested t v m) ≡ true
test_told (Compares bound e) v m h = answer_told (den e m) _ (expr_kept e m h)
test_told (Interval closed_low low high closed_high) v m h =
    let t = both_true (stays_within low) (stays_within high) h in
    joined_told and_of _ _ (answer_told (den low m) _ (expr_kept low m t.0)) (answer_told (den high m) _ (expr_kept high m t.1))
test_told (Equals e) v m h = answer_told (den e m) _ (expr_kept e m h)

any_told : (ts : List Test) (v : Datum) (m : Bindings) → list_all test_stays ts ≡ true → is_told (tested_any ts v m) ≡ true
any_told [] v m h = refl
any_told (t ∷ ts) v m h =
    let b = both_true (test_stays t) (list_all test_stays ts) h in
    joined_told or_of (tested t v m) (tested_any ts v m) (test_told t v m b.0) (any_told ts v m b.1)

tests_told : (ts : Tests) (v : Datum) (m : Bindings) → tests_stay ts ≡ true → is_told (satisfied ts v m) ≡ true
tests_told Any v m h = refl
tests_told (OneOf ts) v m h = any_told ts v m h
tests_told (NoneOf ts) v m h = opposite_told (tested_any ts v m) (any_told ts v m h)

-- evaluating them breaks no limit
pub tests_within : (ts : Tests) (v : Datum) (m : Bindings) → tests_stay ts ≡ true → satisfied ts v m ≢ Broken
tests_within ts v m h broken = true≢false (sym (tests_told ts v m h) ∙ ap is_told broken)

-- ---- literals that are ready

-- a value that its literal has is one that keeps the limits
pub literal_of_value : (d : Datum) → ((m : Bindings) → den (expr_of_constant d) m ≡ Is d) → is_literal (expr_of_constant d) ≡ true
literal_of_value null h = refl
literal_of_value (boolean b) h = refl
literal_of_value (number (pos n)) h = kept_in_range (pos n) (ap is_kept (h []))
literal_of_value (number (negsuc n)) h = refl
literal_of_value (text s) h = refl
literal_of_value (list ds) h = refl
literal_of_value (context es) h = refl

-- ---- trees and tests of the code

pub view-Constant : (d : Datum) → view (tree.Constant d) ≡ expr_of_constant d
view-Constant d = search (rules, the_lemmas)

pub all_seen : (ts : List code.Test) → list_all test_stays (test_views ts) ≡ list_all (λ t. test_stays (test_view t)) ts
all_seen ts = list_all-map test_stays test_view ts
