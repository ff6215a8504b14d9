-- Expressions and tests in which no name stands.
use Rattle.std.proofs.Common.{◌≡◌, ◌∙◌, ◌&&◌, ◌+◌, ◌<◌, ℕ, ℤ, pos, negsuc, List, length, get_or, drop, true, refl, sym, ap}
use Rattle.std.proofs.lemmas.List.{at_drop_more}
use Rattle.std.specs.List.{list_all}
use Rattle.std.proofs.lemmas.List.Folds.{list_all-map}
use Rattle.feel_value.specs.Datum.{Datum, null, boolean, number, text, list, context}
use Rattle.feel_text.specs.Constants.{expr_of_constant, expr_of_number}
use Rattle.feel_text.specs.TestsView.{test_view, test_views}
use Rattle.feel_text.specs.View.{view, views}
use Rattle.feel_text.specs.declared.expr.Tree.{Tree}
use Rattle.feel_text.specs.declared.unary.Test as code
use Rattle.desk_checking.specs.Domains.{are_constant, has_constants, is_constant}

number_is : (z : ℤ) → is_constant (expr_of_number z) ≡ true
number_is (pos n) = refl
number_is (negsuc n) = refl

-- a literal has no name
pub literal_is : (d : Datum) → true ≡ is_constant (expr_of_constant d)
literal_is null = refl
literal_is (boolean b) = refl
literal_is (number z) = sym (number_is z)
literal_is (text s) = refl
literal_is (list ds) = refl
literal_is (context es) = refl

pub all_seen : (ts : List code.Test) → list_all has_constants (test_views ts) ≡ list_all (λ t. has_constants (test_view t)) ts
all_seen ts = list_all-map has_constants test_view ts

-- the expressions from one on are that one and the later ones
pub exprs_from : (xs : List Tree) (i : ℕ) (x : Tree) → x ≡ get_or xs i x → i < length xs → are_constant (views (drop i xs)) ≡ (is_constant (view x) && are_constant (views (drop (i + 1) xs)))
exprs_from xs i x e h =
    at_drop_more (λ ys. are_constant (views ys)) xs i x h ∙ ap (λ (y : Tree). is_constant (view y) && are_constant (views (drop (i + 1) xs))) (sym e)
