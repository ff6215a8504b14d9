-- What tests ask of a value, where that is known when they are read.
use Rattle.std.proofs.Common.{◌≡◌, ◌∙◌, sym, ap, refl, ℤ, Bool, true, false, ◌&&◌, ◌||◌, List, [], ◌∷◌, ◌++◌, length, get_or, arith, pos, ◌-ℤ◌, FitsSigned, w64, if◌then◌else◌}
use Rattle.std.specs.Prelude.{int_le}
use Rattle.std.specs.Ordering.{int_cmp, is_eq}
use Rattle.std.specs.Int.{int_max, int_min}
use Rattle.std.proofs.lemmas.Int.{ints}
use Rattle.feel_value.proofs.Booleans.{or_false, or_assoc}
use Rattle.feel_value.specs.Comparison.{equal}
use Rattle.feel_value.specs.Datum.{Datum, null, boolean, number, text, list, context}
use Rattle.feel_value.specs.Limits.{in_range}
use Rattle.feel_value.specs.Outcome.{held}
use Rattle.feel_text.proofs.WithinLimits.{number_is_value}
use Rattle.feel_value.specs.Logic.{is_yes, decided, and_of, or_of}
use Rattle.feel_value.specs.View.{datum_of, items_view}
use Rattle.feel_value.specs.declared.value.Value.{Value}
use Rattle.feel_value.specs.declared.feel.Outcome.{Outcome}
use Rattle.feel_value.specs.declared.feel.Outcome.TheVariants.{Is, Limit}
use Rattle.feel_value.specs.declared.logic.Truth.{Truth}
use Rattle.feel_value.specs.declared.logic.Truth.TheVariants.{Yes, No, Unknown}
use Rattle.feel_text.specs.Constants.{expr_of_constant}
use Rattle.feel_text.specs.Expr.{Expr, Negate}
use Rattle.feel_text.specs.Meaning.{Bindings, den, with_value, of_number}
use Rattle.feel_text.proofs.Answers.{joined_no}
use Rattle.feel_text.specs.TestsView.{test_view, test_views}
use Rattle.feel_text.specs.declared.unary.Test.{Test}
use Rattle.feel_text.specs.Ready.{Meets, lies_within}
use Rattle.feel_text.specs.declared.ready.Span.{Span}
use Rattle.feel_text.specs.Satisfied.{Answer, Told, Broken, answer, joined, held_of, is_in, is_listed, is_member, tested, tested_any}

-- ---- answers

yes_decided : (t : Truth) → held_of (Told t) ≡ held_of (Told (decided (is_yes t)))
yes_decided Yes = refl
yes_decided No = refl
yes_decided Unknown = refl

both_yes : (s t : Truth) → is_yes (and_of s t) ≡ (is_yes s && is_yes t)
both_yes Yes Yes = refl
both_yes Yes No = refl
both_yes Yes Unknown = refl
both_yes No t = refl
both_yes Unknown Yes = refl
both_yes Unknown No = refl
both_yes Unknown Unknown = refl

-- one comparison, with an expression that has this value
pub meets_one : (o : Outcome) (d : Datum) (f : Datum → Truth) (b : Bool) → o ≡ Is d → is_yes (f d) ≡ b → Meets (answer o f) b
meets_one o d f b e h = ap (λ o. held_of (answer o f)) e ∙ yes_decided (f d) ∙ ap (λ b. held_of (Told (decided b))) h

-- two comparisons
pub meets_both : (o p : Outcome) (d e : Datum) (f g : Datum → Truth) (a b : Bool) → o ≡ Is d → p ≡ Is e → is_yes (f d) ≡ a → is_yes (g e) ≡ b → Meets (joined and_of (answer o f) (answer p g)) (a && b)
meets_both o p d e f g a b i j h k =
    ap (λ o. held_of (joined and_of (answer o f) (answer p g))) i ∙ ap (λ p. held_of (joined and_of (Told (f d)) (answer p g))) j ∙ yes_decided (and_of (f d) (g e))
    ∙ ap (λ b. held_of (Told (decided b))) (both_yes (f d) (g e) ∙ ap (λ a. a && is_yes (g e)) h ∙ ap (λ b. a && b) k)

-- ---- equality with a literal

not_listed : (d : Datum) (v : Datum) → ((m : Bindings) → den (expr_of_constant d) m ≡ Is d) → is_listed v d ≡ false
not_listed null v h = refl
not_listed (boolean b) v h = refl
not_listed (number z) v h = refl
not_listed (text s) v h = refl
not_listed (list ds) v h = let e = h [] in cc
not_listed (context es) v h = refl

pub equals_literal : (d : Datum) (v : Datum) (m : Bindings) → ((m : Bindings) → den (expr_of_constant d) m ≡ Is d) → answer (den (expr_of_constant d) m) (λ e. decided (is_in v e)) ≡ Told (decided (is_yes (equal v d)))
equals_literal d v m h =
    ap (λ o. answer o (λ e. decided (is_in v e))) (h m)
    ∙ ap (λ b. Told (decided (is_yes (equal v d) || b))) (not_listed d v h) ∙ ap (λ b. Told (decided b)) (or_false (is_yes (equal v d)))

-- an expression that has this number
pub equals_number : (o : Outcome) (z : ℤ) (v : Datum) → o ≡ Is (number z) → answer o (λ e. decided (is_in v e)) ≡ Told (decided (is_yes (equal v (number z))))
equals_number o z v e = ap (λ o. answer o (λ e. decided (is_in v e))) e ∙ ap (λ b. Told (decided b)) (or_false (is_yes (equal v (number z))))

pub yes_of : (b : Bool) → is_yes (decided b) ≡ b
yes_of true = refl
yes_of false = refl

same_number : (x z : ℤ) → is_eq (int_cmp x z) ≡ (int_le z x && int_le x z)
same_number x z = grind (arith, ints)

-- ---- spans

both_ends : (a b c d z : ℤ) → (int_le (int_max a c) z && int_le z (int_min b d)) ≡ ((int_le a z && int_le z b) && (int_le c z && int_le z d))
both_ends a b c d z = grind (arith, ints)

-- the numbers of two spans
pub both_spans : (s t u : Span) → u.low ≡ int_max s.low t.low → u.high ≡ int_min s.high t.high → (v : Datum) → lies_within u v ≡ (lies_within s v && lies_within t v)
both_spans s t u l h (number z) = ap (λ b. int_le b z && int_le z u.high) l ∙ ap (λ b. int_le (int_max s.low t.low) z && int_le z b) h ∙ both_ends s.low s.high t.low t.high z
both_spans s t u l h null = refl
both_spans s t u l h (boolean b) = refl
both_spans s t u l h (text bytes) = refl
both_spans s t u l h (list ds) = refl
both_spans s t u l h (context es) = refl

-- one number
pub one_number : (s : Span) (z : ℤ) (v : Datum) → s.low ≡ z → s.high ≡ z → lies_within s v ≡ is_yes (equal v (number z))
one_number s z (number x) l h = ap (λ b. int_le b x && int_le x s.high) l ∙ ap (λ b. int_le z x && int_le x b) h ∙ sym (yes_of (is_eq (int_cmp x z)) ∙ same_number x z)
one_number s z null l h = refl
one_number s z (boolean b) l h = refl
one_number s z (text bytes) l h = refl
one_number s z (list ds) l h = refl
one_number s z (context es) l h = refl

-- ---- opposites

opposite_kept : (z : ℤ) → FitsSigned w64 z → FitsSigned w64 (pos 0 -ℤ z) → in_range (pos 0 -ℤ z) ≡ true
opposite_kept z f g = grind (arith, ints)

pub opposite_number : (e : Expr) (z : ℤ) (m : Bindings) → FitsSigned w64 z → FitsSigned w64 (pos 0 -ℤ z) → den e m ≡ Is (number z) → den (Negate e) m ≡ Is (number (pos 0 -ℤ z))
opposite_number e z m f g h =
    ap (λ o. with_value o (λ d. held (of_number (λ x. number (pos 0 -ℤ x)) d))) h
    ∙ ap (λ (b : Bool). if b then Is (number (pos 0 -ℤ z)) else Limit) (number_is_value (pos 0 -ℤ z) (opposite_kept z f g))

-- ---- one more constant

or_decided : (a b : Bool) → or_of (decided a) (decided b) ≡ decided (a || b)
or_decided true b = refl
or_decided false true = refl
or_decided false false = refl

member_more : (v : Datum) (ds : List Value) (d : Value) → is_member v (items_view (ds ++ d ∷ [])) ≡ (is_member v (items_view ds) || is_yes (equal v (datum_of d)))
member_more v [] d = or_false (is_yes (equal v (datum_of d)))
member_more v (e ∷ ds) d = ap (λ b. is_yes (equal v (datum_of e)) || b) (member_more v ds d) ∙ sym (or_assoc (is_yes (equal v (datum_of e))) (is_member v (items_view ds)) (is_yes (equal v (datum_of d))))

pub one_more : (v : Datum) (ds : List Value) (d : Value)
    → joined or_of (Told (decided (is_member v (items_view ds)))) (Told (decided (is_yes (equal v (datum_of d))))) ≡ Told (decided (is_member v (items_view (ds ++ d ∷ []))))
one_more v ds d = ap Told (or_decided (is_member v (items_view ds)) (is_yes (equal v (datum_of d))) ∙ ap decided (sym (member_more v ds d)))

no_or : (t : Truth) → or_of No t ≡ t
no_or Yes = refl
no_or No = refl
no_or Unknown = refl

pub no_joined : (a : Answer) → joined or_of (Told No) a ≡ a
no_joined (Told t) = ap Told (no_or t)
no_joined Broken = refl

-- a list of one test
pub lone : (ts : List Test) (t : Test) (v : Datum) (m : Bindings) → length ts ≡ 1 → t ≡ get_or ts 0 t → tested_any (test_views ts) v m ≡ tested (test_view t) v m
lone [] t v m h e = cc
lone (u ∷ []) t v m h e = joined_no (tested (test_view u) v m) ∙ ap (λ (t : Test). tested (test_view t) v m) (sym e)
lone (u ∷ w ∷ ts) t v m h e = absurd (omega arith)
