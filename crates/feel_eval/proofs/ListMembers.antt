-- The members of lists, one after the other.
use Rattle.std.proofs.Common.{◌≡◌, ◌∙◌, ap, refl, ℕ, suc, ℤ, ◌+◌, ◌<◌, List, [], ◌∷◌, ◌++◌, length, get_or, drop, Option, Some, None, true, false, if◌then◌else◌}
use Rattle.std.specs.Prelude.{option_map}
use Rattle.feel_value.specs.Datum.{Datum, Items, item, list, no_items, items_of, members_of}
use Rattle.feel_value.specs.Limits.{is_value}
use Rattle.feel_value.specs.Outcome.{held}
use Rattle.feel_value.specs.View.{datum_of, items_view}
use Rattle.feel_value.specs.declared.value.Value.{Value}
use Rattle.feel_value.specs.declared.value.Value.TheVariants.{Number}
use Rattle.feel_value.proofs.Views.{datum_of-Number}
use Rattle.feel_value.proofs.Entries.{items_from}
use Rattle.feel_value.specs.declared.feel.Outcome.{Outcome}
use Rattle.feel_value.specs.declared.feel.Outcome.TheVariants.{Is, Limit}
use Rattle.feel_value.proofs.Room.{behind, behind-push, behind-end, too_much}
use Rattle.feel_text.specs.Meaning.{member_before, folded, list_held}

pub count_view : (xs : List Value) → length (members_of (items_view xs)) ≡ length xs
count_view [] = refl
count_view (x ∷ xs) = ap suc (count_view xs)

-- one more member has a value
pub member_step : (ms : List Datum) (d : Datum) (o : Outcome) (rest : Option Items) → o ≡ Is d → option_map (behind ms) (member_before o rest) ≡ option_map (behind (ms ++ d ∷ [])) rest
member_step ms d o None e = ap (λ p. option_map (behind ms) (member_before p None)) e
member_step ms d o (Some ds) e = ap (λ p. option_map (behind ms) (member_before p (Some ds))) e ∙ ap Some (behind-push ms d ds)

-- members that are too many for a value leave no list, whatever comes behind them
pub stopped : (ms : List Datum) (o : Option Items) → is_value (list (items_of ms)) ≡ false → list_held (option_map (behind ms) o) ≡ Limit
stopped ms None h = refl
stopped ms (Some ds) h = ap (λ b. if b then Is (list (behind ms ds)) else Limit) (too_much ms ds h)

pub whole : (ms : List Datum) → is_value (list (items_of ms)) ≡ true → list_held (Some (behind ms no_items)) ≡ Is (list (items_of ms))
whole ms h = ap (λ ds. held (list ds)) (behind-end ms) ∙ ap (λ b. if b then Is (list (items_of ms)) else Limit) h

-- one more member that is a number
pub folded_step : (f : ℤ → ℤ → ℤ) (t s z : ℤ) (xs : List Value) (i : ℕ) (x : Value) → x ≡ get_or xs i x → i < length xs → x ≡ Number z → f t z ≡ s
    → folded f t (items_view (drop i xs)) ≡ folded f s (items_view (drop (i + 1) xs))
folded_step f t s z xs i x e h q sum =
    ap (folded f t) (items_from xs i x e h) ∙ ap (λ d. folded f t (item d (items_view (drop (i + 1) xs)))) (ap datum_of q ∙ datum_of-Number z)
    ∙ ap (λ n. folded f n (items_view (drop (i + 1) xs))) sum
