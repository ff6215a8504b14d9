-- What is distinct in a value is distinct in its parts.
use Rattle.std.proofs.Common.{◌≡◌, ℕ, ◌<◌, true, ◌&&◌, refl, List, [], ◌∷◌, Bor, ap₂, length, get_or}
use Rattle.std.specs.List.{AllByRecursion}
use Rattle.std.specs.List.Sorted.{IsPermutation}
use Rattle.std.proofs.lemmas.List.Elements.{All-from_recursion, recursion_from_All}
use Rattle.std.proofs.lemmas.List.Sorted.{All-permutation}
use Rattle.feel_value.specs.Limits.{names_distinct, items_distinct, entries_distinct}
use Rattle.feel_value.specs.Names.{lent}
use Rattle.feel_value.specs.View.{datum_of, items_view, entries_view}
use Rattle.feel_value.specs.declared.value.Value.{Value}
use Rattle.feel_value.proofs.Booleans.{both_true}
use Rattle.feel_value.proofs.Entries.{Entry}

abbrev IsDistinctEntry : Entry → Type 0
IsDistinctEntry e = names_distinct (datum_of e.1) ≡ true

items_parts : (vs : List Value) → items_distinct (items_view vs) ≡ true → AllByRecursion (λ (v : Value). names_distinct (datum_of v) ≡ true) vs
items_parts [] h = tt
items_parts (v ∷ vs) h = let p = both_true (names_distinct (datum_of v)) (items_distinct (items_view vs)) h in (p.0, items_parts vs p.1)

entries_parts : (es : List Entry) → entries_distinct (entries_view es) ≡ true → AllByRecursion IsDistinctEntry es
entries_parts [] h = tt
entries_parts (e ∷ es) h = let p = both_true (names_distinct (datum_of e.1)) (entries_distinct (entries_view es)) h in (p.0, entries_parts es p.1)

entries_whole : (es : List Entry) → AllByRecursion IsDistinctEntry es → entries_distinct (entries_view es) ≡ true
entries_whole [] h = refl
entries_whole (e ∷ es) h = ap₂ (λ a b. a && b) h.0 (entries_whole es h.1)

lent_parts : (es : List (Bor Entry)) → entries_distinct (entries_view (lent es)) ≡ true → AllByRecursion (λ (e : Bor Entry). names_distinct (datum_of e.now.1) ≡ true) es
lent_parts [] h = tt
lent_parts (e ∷ es) h = let p = both_true (names_distinct (datum_of e.now.1)) (entries_distinct (entries_view (lent es))) h in (p.0, lent_parts es p.1)

pub item_distinct : (vs : List Value) (i : ℕ) (d : Value) → i < length vs → items_distinct (items_view vs) ≡ true → names_distinct (datum_of (get_or vs i d)) ≡ true
item_distinct vs i d lt h = All-from_recursion (λ (v : Value). names_distinct (datum_of v) ≡ true) vs (items_parts vs h) i d lt

pub lent_distinct : (es : List (Bor Entry)) (i : ℕ) (d : Bor Entry) → i < length es → entries_distinct (entries_view (lent es)) ≡ true → names_distinct (datum_of (get_or es i d).now.1) ≡ true
lent_distinct es i d lt h = All-from_recursion (λ (e : Bor Entry). names_distinct (datum_of e.now.1) ≡ true) es (lent_parts es h) i d lt

pub distinct_in_any_order : (xs ys : List Entry) → IsPermutation xs ys → entries_distinct (entries_view xs) ≡ true → entries_distinct (entries_view ys) ≡ true
distinct_in_any_order xs ys p h =
    entries_whole ys (recursion_from_All IsDistinctEntry ys (All-permutation IsDistinctEntry xs ys p (All-from_recursion IsDistinctEntry xs (entries_parts xs h))))
