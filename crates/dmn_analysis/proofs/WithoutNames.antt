-- Whether tests in which no name stands break a limit is the same whatever the value, and whatever the names stand for.
use Rattle.std.proofs.Common.{◌≡◌, ◌≢◌, ◌∙◌, refl, sym, ap, Bool, true, false, ◌&&◌, List, [], ◌∷◌}
use Rattle.std.specs.List.{list_all}
use Rattle.feel_value.specs.Datum.{Datum}
use Rattle.feel_value.specs.Logic.{and_of, or_of, not_of, decided, is_yes, truth_datum, truth_of}
use Rattle.feel_value.specs.Outcome.{held as held_value}
use Rattle.feel_value.specs.declared.feel.Outcome.{Outcome}
use Rattle.feel_value.specs.declared.feel.Outcome.TheVariants.{Is, Limit}
use Rattle.feel_value.specs.declared.logic.Truth.{Truth}
use Rattle.feel_value.specs.declared.logic.Truth.TheVariants.{Yes, No, Unknown}
use Rattle.feel_value.specs.Datum.{number}
use Rattle.std.specs.Prelude.{pos, ◌-ℤ◌}
use Rattle.feel_text.specs.Expr as expr
use Rattle.feel_text.specs.Expr.{Expr, Exprs, none, more}
use Rattle.feel_text.specs.Meaning.{Bindings, between_of, call_of, choice, den, dens, list_held, member_before, modulo_of, of_number, operation, path_of, with_value, with_values}
use Rattle.feel_text.specs.Satisfied.{Answer, Broken, Told, answer, held_of, high_bound, is_in, joined, low_bound, opposite_answer, satisfied, stands_to, tested, tested_any}
use Rattle.feel_text.specs.declared.held.Held.TheVariants as held
use Rattle.feel_text.specs.Tests.{Test, Compares, Interval, Equals, Tests, Any, OneOf, NoneOf}
use Rattle.dmn_analysis.specs.Nameless.{has_no_name, have_no_name, is_nameless, is_nameless_test}

both : (a b : Bool) → (a && b) ≡ true → (a ≡ true) × (b ≡ true)
both true true e = (refl, refl)
both true false e = cc
both false b e = cc

-- ---- values

two : (f : Datum → Datum → Outcome) (o p x y : Outcome) → o ≡ x → p ≡ y → with_values o p f ≡ with_values x y f
two f o p x y e g = ap (λ z. with_values z p f) e ∙ ap (λ z. with_values x z f) g

mutual
  same_value : (e : Expr) (m : Bindings) → has_no_name e ≡ true → den e m ≡ den e []
  same_value expr.Null m h = refl
  same_value (expr.Boolean b) m h = refl
  same_value (expr.Number n) m h = refl
  same_value (expr.Text s) m h = refl
  same_value (expr.Name n) m h = cc
  same_value (expr.Group e) m h = same_value e m h
  same_value (expr.Members es) m h = ap list_held (same_items es m h)
  same_value (expr.Call f e) m h = ap (λ o. with_value o (λ d. held_value (call_of f d))) (same_value e m h)
  same_value (expr.Modulo a b) m h =
      let parts = both (has_no_name a) (has_no_name b) h in
      two (λ d e. held_value (modulo_of d e)) (den a m) (den b m) (den a []) (den b []) (same_value a m parts.0) (same_value b m parts.1)
  same_value (expr.Not e) m h = ap (λ o. with_value o (λ d. Is (truth_datum (not_of (truth_of d))))) (same_value e m h)
  same_value (expr.Negate e) m h = ap (λ o. with_value o (λ d. held_value (of_number (λ x. number (pos 0 -ℤ x)) d))) (same_value e m h)
  same_value (expr.Path e n) m h = ap (λ o. with_value o (λ d. held_value (path_of n d))) (same_value e m h)
  same_value (expr.Binary op a b) m h =
      let parts = both (has_no_name a) (has_no_name b) h in
      two (λ d e. held_value (operation op d e)) (den a m) (den b m) (den a []) (den b []) (same_value a m parts.0) (same_value b m parts.1)
  same_value (expr.Between e low high) m h =
      let first = both (has_no_name e) (has_no_name low && has_no_name high) h in
      let parts = both (has_no_name low) (has_no_name high) first.1 in
      ap (λ o. with_value o (λ d. with_values (den low m) (den high m) (λ l r. Is (between_of d l r)))) (same_value e m first.0)
      ∙ ap (λ o. with_value (den e []) (λ d. with_values o (den high m) (λ l r. Is (between_of d l r)))) (same_value low m parts.0)
      ∙ ap (λ o. with_value (den e []) (λ d. with_values (den low []) o (λ l r. Is (between_of d l r)))) (same_value high m parts.1)
  same_value (expr.If test a b) m h =
      let first = both (has_no_name test) (has_no_name a && has_no_name b) h in
      let parts = both (has_no_name a) (has_no_name b) first.1 in
      ap (λ o. with_value o (λ d. choice (is_yes (truth_of d)) (den a m) (den b m))) (same_value test m first.0)
      ∙ ap (λ o. with_value (den test []) (λ d. choice (is_yes (truth_of d)) o (den b m))) (same_value a m parts.0)
      ∙ ap (λ o. with_value (den test []) (λ d. choice (is_yes (truth_of d)) (den a []) o)) (same_value b m parts.1)

  same_items : (es : Exprs) (m : Bindings) → have_no_name es ≡ true → dens es m ≡ dens es []
  same_items none m h = refl
  same_items (more e es) m h =
      let parts = both (has_no_name e) (have_no_name es) h in
      ap (λ o. member_before o (dens es m)) (same_value e m parts.0) ∙ ap (member_before (den e [])) (same_items es m parts.1)

-- ---- answers

abbrev is_told : Answer → Bool
is_told (Told t) = true
is_told Broken = false

answer_told : (o : Outcome) (f g : Datum → Truth) → is_told (answer o f) ≡ is_told (answer o g)
answer_told (Is d) f g = refl
answer_told Limit f g = refl

joined_told : (f : Truth → Truth → Truth) (a b : Answer) → is_told (joined f a b) ≡ (is_told a && is_told b)
joined_told f (Told s) (Told t) = refl
joined_told f (Told s) Broken = refl
joined_told f Broken b = refl

opposite_told : (a : Answer) → is_told (opposite_answer a) ≡ is_told a
opposite_told (Told t) = refl
opposite_told Broken = refl

one_told : (e : Expr) (f g : Datum → Truth) (m : Bindings) → has_no_name e ≡ true → is_told (answer (den e m) f) ≡ is_told (answer (den e []) g)
one_told e f g m h = ap (λ o. is_told (answer o f)) (same_value e m h) ∙ answer_told (den e []) f g

joined_same : (f : Truth → Truth → Truth) (a b x y : Answer) → is_told a ≡ is_told x → is_told b ≡ is_told y → is_told (joined f a b) ≡ is_told (joined f x y)
joined_same f a b x y e g = joined_told f a b ∙ ap (λ z. z && is_told b) e ∙ ap (λ z. is_told x && z) g ∙ sym (joined_told f x y)

test_told : (t : Test) (v w : Datum) (m : Bindings) → is_nameless_test t ≡ true → is_told (tested t v m) ≡ is_told (tested t w [])
test_told (Compares bound e) v w m h = one_told e (stands_to bound v) (stands_to bound w) m h
test_told (Interval c low high d) v w m h =
    let parts = both (has_no_name low) (has_no_name high) h in
    joined_same and_of (answer (den low m) (stands_to (low_bound c) v)) (answer (den high m) (stands_to (high_bound d) v)) (answer (den low []) (stands_to (low_bound c) w)) (answer (den high []) (stands_to (high_bound d) w))
    (one_told low (stands_to (low_bound c) v) (stands_to (low_bound c) w) m parts.0) (one_told high (stands_to (high_bound d) v) (stands_to (high_bound d) w) m parts.1)
test_told (Equals e) v w m h = one_told e (λ d. decided (is_in v d)) (λ d. decided (is_in w d)) m h

any_told : (ts : List Test) (v w : Datum) (m : Bindings) → list_all is_nameless_test ts ≡ true → is_told (tested_any ts v m) ≡ is_told (tested_any ts w [])
any_told [] v w m h = refl
any_told (t ∷ ts) v w m h =
    let parts = both (is_nameless_test t) (list_all is_nameless_test ts) h in
    joined_same or_of (tested t v m) (tested_any ts v m) (tested t w []) (tested_any ts w []) (test_told t v w m parts.0) (any_told ts v w m parts.1)

told : (ts : Tests) (v w : Datum) (m : Bindings) → is_nameless ts ≡ true → is_told (satisfied ts v m) ≡ is_told (satisfied ts w [])
told Any v w m h = refl
told (OneOf ts) v w m h = any_told ts v w m h
told (NoneOf ts) v w m h = opposite_told (tested_any ts v m) ∙ any_told ts v w m h ∙ sym (opposite_told (tested_any ts w []))

broken_is : (a : Answer) → is_told a ≡ false → a ≡ Broken
broken_is (Told t) h = cc
broken_is Broken h = refl

-- ---- what is answered of tests

pub limit_is_broken : (a : Answer) → held_of a ≡ held.Limit → a ≡ Broken
limit_is_broken (Told Yes) h = cc
limit_is_broken (Told No) h = cc
limit_is_broken (Told Unknown) h = cc
limit_is_broken Broken h = refl

-- where they break no limit of one value, they break none
pub never_broken : (ts : Tests) (w : Datum) → is_nameless ts ≡ true → satisfied ts w [] ≢ Broken → (m : Bindings) (v : Datum) → satisfied ts v m ≢ Broken
never_broken ts w h kept m v broken = kept (broken_is (satisfied ts w []) (sym (told ts v w m h) ∙ ap is_told broken))
