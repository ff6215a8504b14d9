-- Constants in parentheses, and numbers that are worked out.
use Rattle.std.proofs.Common.{◌≡◌, ◌∙◌, refl, sym, ap, [], ℤ, pos, Option, Some, None, IfSome, Vec, Global, Bool, true, false, ◌&&◌, ◌||◌, rules}
use Rattle.std.specs.Prelude.{◌-ℤ◌}
use Rattle.feel_value.specs.Datum.{number}
use Rattle.feel_value.specs.Outcome.{held}
use Rattle.feel_value.specs.declared.feel.Outcome.TheVariants.{Is, Limit}
use Rattle.feel_text.specs.Expr as expr
use Rattle.feel_text.specs.Expr.{Expr}
use Rattle.feel_text.specs.Meaning.{Bindings, den, of_number, operation, with_value, with_values}
use Rattle.feel_text.specs.View.{view, views}
use Rattle.feel_text.specs.declared.expr.Operator.{Operator}
use Rattle.feel_text.specs.declared.expr.Operator.TheVariants as operator
use Rattle.feel_text.specs.declared.expr.Tree.{Tree, the_lemmas}
use Rattle.feel_text.specs.declared.expr.Tree.TheVariants as tree
use Rattle.dmn_analysis.specs.Constant.{bare, has_value, is_literal, is_number, is_scalar, is_sum}

-- ---- parentheses

pub bare_means : (e : Expr) (m : Bindings) → den (bare e) m ≡ den e m
bare_means (expr.Group e) m = bare_means e m
bare_means expr.Null m = refl
bare_means (expr.Boolean b) m = refl
bare_means (expr.Number n) m = refl
bare_means (expr.Text s) m = refl
bare_means (expr.Name n) m = refl
bare_means (expr.Members es) m = refl
bare_means (expr.Call f e) m = refl
bare_means (expr.Modulo a b) m = refl
bare_means (expr.Not e) m = refl
bare_means (expr.Negate e) m = refl
bare_means (expr.Path e n) m = refl
bare_means (expr.Binary op a b) m = refl
bare_means (expr.Between e a b) m = refl
bare_means (expr.If t a b) m = refl

-- ---- numbers that are worked out

pub view-List : (es : Vec Tree Global) → view (tree.List es) ≡ expr.Members (views es.items)
view-List es = search (rules, the_lemmas)

-- whatever the names stand for, an expression is this number, where there is one
abbrev pub IsNumber : Option ℤ → Expr → Type 0
IsNumber found e = IfSome found (λ n. (m : Bindings) → den e m ≡ Is (number n))

pub opposite : (e : Expr) (n : ℤ) (found : Option ℤ) → ((m : Bindings) → den e m ≡ Is (number n)) → IfSome found (λ z. held (operation operator.Subtract (number (pos 0)) (number n)) ≡ Is (number z)) → IsNumber found (expr.Negate e)
opposite e n None is worked = worked
opposite e n (Some z) is worked = λ m. ap (λ o. with_value o (λ d. held (of_number (λ x. number (pos 0 -ℤ x)) d))) (is m) ∙ worked

pub worked_out : (op : Operator) (a b : Expr) (x y : ℤ) (found : Option ℤ) → ((m : Bindings) → den a m ≡ Is (number x)) → ((m : Bindings) → den b m ≡ Is (number y))
    → IfSome found (λ z. held (operation op (number x) (number y)) ≡ Is (number z)) → IsNumber found (expr.Binary op a b)
worked_out op a b x y None first second worked = worked
worked_out op a b x y (Some z) first second worked = λ m.
    ap (λ o. with_values o (den b m) (λ d e. held (operation op d e))) (first m) ∙ ap (λ o. with_values (Is (number x)) o (λ d e. held (operation op d e))) (second m) ∙ worked

-- ---- literals

both : (a b : Bool) → (a && b) ≡ true → (a ≡ true) × (b ≡ true)
both true true e = (refl, refl)
both true false e = cc
both false b e = cc

-- a literal that is no number within the limits
pub scalar_left : (e : Expr) → (is_sum e ≡ true → (m : Bindings) → den e m ≡ Limit) → is_literal e ≡ true → is_scalar (bare e) ≡ true
scalar_left e broken h = go (is_scalar (bare e)) h
  where
    go : (b : Bool) → (b || is_number e) ≡ true → b ≡ true
    go true h = refl
    go false h =
        let parts = both (is_sum e) (has_value (den e [])) h in
        let wrong : false ≡ true = ap has_value (sym (broken parts.0 [])) ∙ parts.1 in cc
