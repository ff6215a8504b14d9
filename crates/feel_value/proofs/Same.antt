-- Comparing lists and contexts of the code part by part.
use Rattle.std.proofs.Common.{◌≡◌, ℕ, suc, Bool, false, ◌&&◌, ◌||◌, List, [], ◌∷◌, ◌++◌, length, refl, sym, ap, ◌∙◌, bytes_eq}
use Rattle.std.specs.Arc.{arc_str_bytes}
use Rattle.feel_value.specs.Datum.{Datum}
use Rattle.feel_value.specs.Limits.{has_name}
use Rattle.feel_value.specs.Logic.{is_yes}
use Rattle.feel_value.specs.Comparison.{equal, items_equal, has_entry}
use Rattle.feel_value.specs.View.{datum_of, items_view, entries_view}
use Rattle.feel_value.specs.declared.value.Value.{Value}
use Rattle.feel_value.proofs.Entries.{Entry}
use Rattle.feel_value.proofs.Booleans.{and_false, or_assoc, or_comm}

-- lists of two lengths are not equal
pub other_length : (xs ys : List Value) → (length xs ≡ length ys → ⊥) → items_equal (items_view xs) (items_view ys) ≡ false
other_length [] [] h = absurd (h refl)
other_length [] (y ∷ ys) h = refl
other_length (x ∷ xs) [] h = refl
other_length (x ∷ xs) (y ∷ ys) h = and_false (is_yes (equal (datum_of x) (datum_of y))) _ (other_length xs ys (λ e. h (ap suc e)))

has_entry-append : (test : Datum → Bool) (n : List ℕ) (xs ys : List Entry) → has_entry test n (entries_view (xs ++ ys)) ≡ (has_entry test n (entries_view xs) || has_entry test n (entries_view ys))
has_entry-append test n [] ys = refl
has_entry-append test n (x ∷ xs) ys =
    ap (λ b. (bytes_eq n (arc_str_bytes x.0) && test (datum_of x.1)) || b) (has_entry-append test n xs ys) ∙ sym (or_assoc (bytes_eq n (arc_str_bytes x.0) && test (datum_of x.1)) _ _)

-- an entry is looked for from some place on, and then before it
pub has_entry-parts : (test : Datum → Bool) (n : List ℕ) (all before after : List Entry) → all ≡ before ++ after
    → has_entry test n (entries_view all) ≡ (has_entry test n (entries_view after) || has_entry test n (entries_view before))
has_entry-parts test n all before after e = ap (λ xs. has_entry test n (entries_view xs)) e ∙ has_entry-append test n before after ∙ or_comm (has_entry test n (entries_view before)) (has_entry test n (entries_view after))

has_name-append : (n : List ℕ) (xs ys : List Entry) → has_name n (entries_view (xs ++ ys)) ≡ (has_name n (entries_view xs) || has_name n (entries_view ys))
has_name-append n [] ys = refl
has_name-append n (x ∷ xs) ys =
    ap (λ b. bytes_eq n (arc_str_bytes x.0) || b) (has_name-append n xs ys) ∙ sym (or_assoc (bytes_eq n (arc_str_bytes x.0)) _ _)

pub has_name-parts : (n : List ℕ) (all before after : List Entry) → all ≡ before ++ after
    → has_name n (entries_view all) ≡ (has_name n (entries_view after) || has_name n (entries_view before))
has_name-parts n all before after e = ap (λ xs. has_name n (entries_view xs)) e ∙ has_name-append n before after ∙ or_comm (has_name n (entries_view before)) (has_name n (entries_view after))
