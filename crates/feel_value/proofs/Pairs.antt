-- Contexts whose names rise are compared place by place.
use Rattle.std.proofs.Common.{◌≡◌, ℕ, ◌≤◌, ◌<◌, Bool, true, false, ◌&&◌, ◌||◌, not, List, [], ◌∷◌, length, suc, Bor, get_or, refl, sym, ap, ap₂, ◌∙◌, bytes_eq, arith, Ordering, Less, Equal, Greater, is_lt, is_eq}
use Rattle.std.specs.Ordering.{ordering_reverse}
use Rattle.std.specs.List.{list_any}
use Rattle.std.specs.List.Sorted.{IsPermutation}
use Rattle.std.proofs.lemmas.Cmp.{nat_list_cmp_total}
use Rattle.std.proofs.lemmas.List.Sorted.{list_any-IsPermutation, All-permutation}
use Rattle.std.proofs.lemmas.List.Recursion.{max_bounds, max_least}
use Rattle.std.proofs.lemmas.Map.Text.{is_eq-slice_cmp}
use Rattle.std.proofs.lemmas.Slice.Eq.{bytes_eq-Decides}
use Rattle.feel_value.specs.Datum.{Datum, Entries, no_entries, entry}
use Rattle.feel_value.specs.Limits.{has_name, depth, items_depth, entries_depth}
use Rattle.feel_value.specs.Logic.{is_yes}
use Rattle.feel_value.specs.Comparison.{equal, values_equal, names_within, has_entry}
use Rattle.feel_value.specs.Names.{names_rise, rises_after, same_names, pairs_equal, lent}
use Rattle.feel_value.specs.View.{datum_of, items_view, entries_view}
use Rattle.feel_value.specs.declared.value.Value.{Value}
use Rattle.feel_value.proofs.Entries.{Entry}
use Rattle.feel_value.proofs.Booleans.{both_true, and_false, or_false}
use Rattle.feel_value.proofs.DistinctNames.{cmp, missing, other_name, after_both}
use Rattle.feel_value.proofs.Laws.{no_entry, names_there}
use Rattle.feel_value.proofs.ByName.{name_of, flipped}

-- ---- in any order

has_name-any : (n : List ℕ) (xs : List Entry) → has_name n (entries_view xs) ≡ list_any (λ e. bytes_eq n (name_of e)) xs
has_name-any n [] = refl
has_name-any n (x ∷ xs) = ap (λ b. bytes_eq n (name_of x) || b) (has_name-any n xs)

has_name-IsPermutation : (n : List ℕ) (xs ys : List Entry) → IsPermutation xs ys → has_name n (entries_view xs) ≡ has_name n (entries_view ys)
has_name-IsPermutation n xs ys p = has_name-any n xs ∙ list_any-IsPermutation (λ e. bytes_eq n (name_of e)) xs ys p ∙ sym (has_name-any n ys)

has_entry-any : (test : Datum → Bool) (n : List ℕ) (xs : List Entry) → has_entry test n (entries_view xs) ≡ list_any (λ e. bytes_eq n (name_of e) && test (datum_of e.1)) xs
has_entry-any test n [] = refl
has_entry-any test n (x ∷ xs) = ap (λ b. (bytes_eq n (name_of x) && test (datum_of x.1)) || b) (has_entry-any test n xs)

has_entry-IsPermutation : (test : Datum → Bool) (n : List ℕ) (xs ys : List Entry) → IsPermutation xs ys → has_entry test n (entries_view xs) ≡ has_entry test n (entries_view ys)
has_entry-IsPermutation test n xs ys p =
    has_entry-any test n xs ∙ list_any-IsPermutation (λ e. bytes_eq n (name_of e) && test (datum_of e.1)) xs ys p ∙ sym (has_entry-any test n ys)

-- all pass where none fails
none_fails : (a b : Bool) → (a && not b) ≡ not (not a || b)
none_fails true b = refl
none_fails false b = refl

values_equal-any : (xs : List Entry) (es : Entries) → values_equal (entries_view xs) es ≡ not (list_any (λ x. not (has_entry (λ e. is_yes (equal (datum_of x.1) e)) (name_of x) es)) xs)
values_equal-any [] es = refl
values_equal-any (x ∷ xs) es =
    let here = has_entry (λ e. is_yes (equal (datum_of x.1) e)) (name_of x) es in
    ap (λ b. here && b) (values_equal-any xs es) ∙ none_fails here _

names_within-any : (xs : List Entry) (es : Entries) → names_within (entries_view xs) es ≡ not (list_any (λ x. not (has_name (name_of x) es)) xs)
names_within-any [] es = refl
names_within-any (x ∷ xs) es = ap (λ b. has_name (name_of x) es && b) (names_within-any xs es) ∙ none_fails (has_name (name_of x) es) _

values_equal-second : (es : Entries) (xs ys : List Entry) → IsPermutation xs ys → values_equal es (entries_view xs) ≡ values_equal es (entries_view ys)
values_equal-second no_entries xs ys p = refl
values_equal-second (entry n d es) xs ys p = ap₂ (λ a b. a && b) (has_entry-IsPermutation (λ e. is_yes (equal d e)) n xs ys p) (values_equal-second es xs ys p)

names_within-second : (es : Entries) (xs ys : List Entry) → IsPermutation xs ys → names_within es (entries_view xs) ≡ names_within es (entries_view ys)
names_within-second no_entries xs ys p = refl
names_within-second (entry n d es) xs ys p = ap₂ (λ a b. a && b) (has_name-IsPermutation n xs ys p) (names_within-second es xs ys p)

values_equal-IsPermutation : (xs ys us vs : List Entry) → IsPermutation xs ys → IsPermutation us vs → values_equal (entries_view xs) (entries_view us) ≡ values_equal (entries_view ys) (entries_view vs)
values_equal-IsPermutation xs ys us vs p q =
    values_equal-any xs (entries_view us) ∙ ap not (list_any-IsPermutation (λ x. not (has_entry (λ e. is_yes (equal (datum_of x.1) e)) (name_of x) (entries_view us))) xs ys p)
    ∙ sym (values_equal-any ys (entries_view us)) ∙ values_equal-second (entries_view ys) us vs q

names_within-IsPermutation : (xs ys us vs : List Entry) → IsPermutation xs ys → IsPermutation us vs → names_within (entries_view xs) (entries_view us) ≡ names_within (entries_view ys) (entries_view vs)
names_within-IsPermutation xs ys us vs p q =
    names_within-any xs (entries_view us) ∙ ap not (list_any-IsPermutation (λ x. not (has_name (name_of x) (entries_view us))) xs ys p)
    ∙ sym (names_within-any ys (entries_view us)) ∙ names_within-second (entries_view ys) us vs q

-- ---- where the names rise

-- an entry that stands before all of the first is equal to none of them
values_skip : (n : List ℕ) (d : Datum) (ds es : Entries) → rises_after n ds ≡ true → values_equal ds (entry n d es) ≡ values_equal ds es
values_skip n d no_entries es h = refl
values_skip n d (entry m e ds) es h =
    let p = both_true (is_lt (cmp n m)) (rises_after m ds) h in
    ap₂ (λ a b. ((a && is_yes (equal e d)) || has_entry (λ x. is_yes (equal e x)) m es) && b) (flipped m n ∙ other_name n m p.0) (values_skip n d ds es (after_both n m ds p.0 p.1))

names_skip : (n : List ℕ) (d : Datum) (ds es : Entries) → rises_after n ds ≡ true → names_within ds (entry n d es) ≡ names_within ds es
names_skip n d no_entries es h = refl
names_skip n d (entry m e ds) es h =
    let p = both_true (is_lt (cmp n m)) (rises_after m ds) h in
    ap₂ (λ a b. (a || has_name m es) && b) (flipped m n ∙ other_name n m p.0) (names_skip n d ds es (after_both n m ds p.0 p.1))

rest_rises : (n : List ℕ) (es : Entries) → rises_after n es ≡ true → names_rise es ≡ true
rest_rises n no_entries h = refl
rest_rises n (entry m d es) h = (both_true (is_lt (cmp n m)) (rises_after m es) h).1

joined : (t v n p : Bool) → (v && n) ≡ p → ((t && v) && n) ≡ (t && p)
joined true v n p e = e
joined false v n p e = refl

turned : (k l : List ℕ) → cmp k l ≡ Greater → is_lt (cmp l k) ≡ true
turned k l e = ap is_lt (nat_list_cmp_total.antisymm l k ∙ ap ordering_reverse e)

-- Where the names of two contexts rise, the contexts have the same names and equal values just where they do so place by place.
pub by_places : (ds es : Entries) → names_rise ds ≡ true → names_rise es ≡ true → (values_equal ds es && names_within es ds) ≡ pairs_equal ds es
by_places no_entries no_entries h k = refl
by_places no_entries (entry n e es) h k = refl
by_places (entry m d ds) no_entries h k = refl
by_places (entry m d ds) (entry n e es) h k = go (cmp m n) refl (by_places ds es (rest_rises m ds h) (rest_rises n es k))
  where
    test : Datum → Bool
    test x = is_yes (equal d x)

    go : (o : Ordering) → cmp m n ≡ o → (values_equal ds es && names_within es ds) ≡ pairs_equal ds es
        → (values_equal (entry m d ds) (entry n e es) && names_within (entry n e es) (entry m d ds)) ≡ pairs_equal (entry m d ds) (entry n e es)
    go Less o rest =
        let lt : is_lt (cmp m n) ≡ true = ap is_lt o in
        let other : bytes_eq m n ≡ false = other_name m n lt in
        let none : has_entry test m es ≡ false = no_entry test m es (missing m es (after_both m n es lt k)) in
        ap₂ (λ a b. (((a && test e) || b) && values_equal ds (entry n e es)) && names_within (entry n e es) (entry m d ds)) other none
        ∙ sym (ap (λ b. (b && test e) && pairs_equal ds es) other)
    go Greater o rest =
        let lt : is_lt (cmp n m) ≡ true = turned m n o in
        let other : bytes_eq n m ≡ false = other_name n m lt in
        let none : has_name n ds ≡ false = missing n ds (after_both n m ds lt h) in
        and_false (values_equal (entry m d ds) (entry n e es)) _ (ap₂ (λ a b. (a || b) && names_within es (entry m d ds)) other none)
        ∙ sym (ap (λ b. (b && test e) && pairs_equal ds es) (flipped m n ∙ other))
    go Equal o rest =
        let same : bytes_eq m n ≡ true = sym (is_eq-slice_cmp m n) ∙ ap is_eq o in
        let m_is_n : m ≡ n = (bytes_eq-Decides m n).0 same in
        let m_first : rises_after m es ≡ true = ap (λ l. rises_after l es) m_is_n ∙ k in
        let n_first : rises_after n ds ≡ true = ap (λ l. rises_after l ds) (sym m_is_n) ∙ h in
        let here : has_entry test m (entry n e es) ≡ test e = ap₂ (λ a b. (a && test e) || b) same (no_entry test m es (missing m es m_first)) ∙ or_false (test e) in
        let found : has_name n (entry m d ds) ≡ true = ap (λ b. b || has_name n ds) (flipped n m ∙ same) in
        ap₂ (λ a b. a && b) (ap₂ (λ a b. a && b) here (values_skip n e ds es n_first)) (ap₂ (λ a b. a && b) found (names_skip m d es ds m_first))
        ∙ joined (test e) (values_equal ds es) (names_within es ds) (pairs_equal ds es) rest
        ∙ sym (ap (λ b. (b && test e) && pairs_equal ds es) same)

-- so they do in any order, where the entries have been put in the order of their names
pub in_order_by_places : (xs ys us vs : List Entry) → IsPermutation xs us → IsPermutation ys vs → names_rise (entries_view us) ≡ true → names_rise (entries_view vs) ≡ true
    → pairs_equal (entries_view us) (entries_view vs) ≡ (values_equal (entries_view xs) (entries_view ys) && names_within (entries_view ys) (entries_view xs))
in_order_by_places xs ys us vs p q h k =
    sym (ap₂ (λ a b. a && b) (values_equal-IsPermutation xs us ys vs p q) (names_within-IsPermutation ys vs xs us q p) ∙ by_places (entries_view us) (entries_view vs) h k)

-- ---- names in one order

-- contexts of two lengths have other names
pub other_names : (xs ys : List Entry) → (length xs ≡ length ys → ⊥) → same_names (entries_view xs) (entries_view ys) ≡ false
other_names [] [] h = absurd (h refl)
other_names [] (y ∷ ys) h = refl
other_names (x ∷ xs) [] h = refl
other_names (x ∷ xs) (y ∷ ys) h = and_false (bytes_eq (name_of x) (name_of y)) _ (other_names xs ys (λ e. h (ap suc e)))

pub other_pairs : (xs ys : List (Bor Entry)) → (length xs ≡ length ys → ⊥) → pairs_equal (entries_view (lent xs)) (entries_view (lent ys)) ≡ false
other_pairs [] [] h = absurd (h refl)
other_pairs [] (y ∷ ys) h = refl
other_pairs (x ∷ xs) [] h = refl
other_pairs (x ∷ xs) (y ∷ ys) h =
    and_false (bytes_eq (name_of x.now) (name_of y.now) && is_yes (equal (datum_of x.now.1) (datum_of y.now.1))) _ (other_pairs xs ys (λ e. h (ap suc e)))

names_alike : (ds es : Entries) → same_names ds es ≡ true → (n : List ℕ) → has_name n es ≡ has_name n ds
names_alike no_entries no_entries h k = refl
names_alike no_entries (entry n e es) h k = cc
names_alike (entry m d ds) no_entries h k = cc
names_alike (entry m d ds) (entry n e es) h k =
    let p = both_true (bytes_eq m n) (same_names ds es) h in
    ap₂ (λ a b. bytes_eq k a || b) (sym ((bytes_eq-Decides m n).0 p.0)) (names_alike ds es p.1 k)

pub same_names_within : (ds es : Entries) → same_names ds es ≡ true → names_within es ds ≡ true
same_names_within ds es h = names_there es ds (λ n e. sym (names_alike ds es h n) ∙ e)

-- ---- how deep they are

pub entry_depth : (xs : List Entry) (i : ℕ) (d : Entry) → i < length xs → depth (datum_of (get_or xs i d).1) ≤ entries_depth (entries_view xs)
entry_depth = max_bounds (λ xs. entries_depth (entries_view xs)) (λ x. depth (datum_of x.1)) refl (λ x xs. refl)

pub lent_depth : (xs : List (Bor Entry)) (i : ℕ) (d : Bor Entry) → i < length xs → depth (datum_of (get_or xs i d).now.1) ≤ entries_depth (entries_view (lent xs))
lent_depth = max_bounds (λ xs. entries_depth (entries_view (lent xs))) (λ x. depth (datum_of x.now.1)) refl (λ x xs. refl)

pub item_depth : (xs : List Value) (i : ℕ) (d : Value) → i < length xs → depth (datum_of (get_or xs i d)) ≤ items_depth (items_view xs)
item_depth = max_bounds (λ xs. items_depth (items_view xs)) (λ x. depth (datum_of x)) refl (λ x xs. refl)

-- in another order they are no deeper
pub no_deeper : (xs ys : List Entry) → IsPermutation xs ys → entries_depth (entries_view ys) ≤ entries_depth (entries_view xs)
no_deeper xs [] p = omega arith
no_deeper xs (y ∷ ys) p =
    max_least (λ zs. entries_depth (entries_view zs)) (λ x. depth (datum_of x.1)) refl (λ x zs. refl) (y ∷ ys) y (entries_depth (entries_view xs))
    (λ i h. All-permutation (λ x. depth (datum_of x.1) ≤ entries_depth (entries_view xs)) xs (y ∷ ys) p (λ k d l. entry_depth xs k d l) i y h)
