-- Entries in the order of their names.
use Rattle.std.proofs.Common.{add-one, ◌≡◌, ℕ, suc, Bool, true, false, ◌&&◌, ◌||◌, not, List, [], ◌∷◌, map, refl, sym, ap, ap₂, subst, ◌∙◌, bytes_eq, arith, Bor, Option, Some, None, is_some, Result, Ok, Err, IfOk, MatchOption, Ordering, Less, Equal, Greater, is_lt, is_eq}
use native.Mathlib.Numerals.{unary_clauses}
use Rattle.std.specs.Arc.{arc_str_bytes}
use Rattle.std.specs.Ordering.{ordering_reverse}
use Rattle.std.specs.Result.{result_ok}
use Rattle.std.specs.List.{IsDistinct, AllByRecursion}
use Rattle.std.specs.List.Sorted.{IsPermutation, IsSortedBy}
use Rattle.std.proofs.lemmas.Cmp.{nat_list_cmp_total}
use Rattle.std.proofs.lemmas.List.Sorted.{IsPermutation-map, IsPermutation-sym}
use Rattle.std.proofs.lemmas.Map.Keys.{IsDistinct-IsPermutation, IsDistinct-head, IsDistinct-tail}
use Rattle.std.proofs.lemmas.Map.Text.{is_eq-slice_cmp}
use Rattle.std.proofs.lemmas.Slice.Eq.{bytes_eq-Decides}
use Rattle.feel_value.specs.Datum.{Entries}
use Rattle.feel_value.specs.Limits.{has_name, names_differ}
use Rattle.feel_value.specs.Names.{IsByName, names_rise, rises_after, lent}
use Rattle.feel_value.specs.View.{entries_view}
use Rattle.feel_value.proofs.Entries.{Entry}
use Rattle.feel_value.proofs.DistinctNames.{cmp, rise_differ}
use Rattle.feel_value.proofs.Booleans.{both_true, and_false, both_false, not_true}

abbrev pub name_of : Entry → List ℕ
name_of e = arc_str_bytes e.0

-- an entry stands before another where its name does
abbrev pub first_by_name : Bor Entry → Bor Entry → Bool
first_by_name x y = is_lt (cmp (name_of x.now) (name_of y.now))

-- the loans of all entries, put in another order, lend the entries in another order
pub moved : (es : List Entry) (xs ys : List (Bor Entry)) → lent xs ≡ es → IsPermutation xs ys → IsPermutation es (lent ys)
moved es xs ys e p = subst (λ zs. IsPermutation zs (lent ys)) e (IsPermutation-map (λ (x : Bor Entry). x.now) xs ys p)

-- the list that was asked for came
pub list_came : {V E : Type 0} (N : Type 0) (Q : V → Type 0) (r : Result (Option V) E) (o : Option V) (v : V) → result_ok r ≡ Some o → o ≡ Some v → IfOk r (λ found. MatchOption found N Q) → Q v
list_came N Q (Err e) o v f g h = cc
list_came N Q (Ok None) o v f g h = cc
list_came N Q (Ok (Some w)) o v f g h = let same : w ≡ v = cc in subst Q same h

-- ---- names that are in order and don't rise repeat

neither_less : (o : Ordering) → is_lt o ≡ false → is_lt (ordering_reverse o) ≡ false → is_eq o ≡ true
neither_less Less e f = cc
neither_less Equal e f = refl
neither_less Greater e f = cc

one_name : (k l : List ℕ) → is_lt (cmp k l) ≡ false → is_lt (cmp l k) ≡ false → bytes_eq k l ≡ true
one_name k l e f = sym (is_eq-slice_cmp k l) ∙ neither_less (cmp k l) e (ap is_lt (sym (nat_list_cmp_total.antisymm l k)) ∙ f)

sorted_tail : (x : Bor Entry) (xs : List (Bor Entry)) → IsSortedBy first_by_name (x ∷ xs) → IsSortedBy first_by_name xs
sorted_tail x xs s = λ k d l h. rw add-one (simp unary_clauses at (s (suc k) d (omega arith) (omega arith)))

pub falls_repeats : (xs : List (Bor Entry)) → IsSortedBy first_by_name xs → names_rise (entries_view (lent xs)) ≡ false → names_differ (entries_view (lent xs)) ≡ false
falls_repeats [] s h = cc
falls_repeats (x ∷ []) s h = cc
falls_repeats (x ∷ y ∷ zs) s h = go (first_by_name x y) refl (falls_repeats (y ∷ zs) (sorted_tail x (y ∷ zs) s))
  where
    rest : Entries
    rest = entries_view (lent zs)

    go : (b : Bool) → first_by_name x y ≡ b → (names_rise (entries_view (lent (y ∷ zs))) ≡ false → names_differ (entries_view (lent (y ∷ zs))) ≡ false)
        → names_differ (entries_view (lent (x ∷ y ∷ zs))) ≡ false
    go true e later =
        let falls : names_rise (entries_view (lent (y ∷ zs))) ≡ false = ap (λ b. b && rises_after (name_of y.now) rest) (sym e) ∙ h in
        and_false (not (has_name (name_of x.now) (entries_view (lent (y ∷ zs))))) _ (later falls)
    go false e later =
        let same : bytes_eq (name_of x.now) (name_of y.now) ≡ true = one_name (name_of x.now) (name_of y.now) e (s 0 x (omega arith) (omega arith)) in
        ap (λ b. not (b || has_name (name_of x.now) rest) && names_differ (entries_view (lent (y ∷ zs)))) same

-- ---- names that differ do so in any order

none_has : (n : List ℕ) (xs : List Entry) → has_name n (entries_view xs) ≡ false → AllByRecursion (λ m. bytes_eq n m ≡ false) (map name_of xs)
none_has n [] h = tt
none_has n (x ∷ xs) h =
    let p = both_false (bytes_eq n (name_of x)) _ h in
    (p.0, none_has n xs p.1)

has_none : (n : List ℕ) (xs : List Entry) → AllByRecursion (λ m. bytes_eq n m ≡ false) (map name_of xs) → has_name n (entries_view xs) ≡ false
has_none n [] h = refl
has_none n (x ∷ xs) h = ap₂ (λ a b. a || b) h.0 (has_none n xs h.1)

pub distinct_names : (xs : List Entry) → names_differ (entries_view xs) ≡ true → IsDistinct bytes_eq (map name_of xs)
unfolding IsDistinct
distinct_names [] h = tt
distinct_names (x ∷ xs) h =
    let p = both_true (not (has_name (name_of x) (entries_view xs))) _ h in
    (none_has (name_of x) xs (not_true _ p.0), distinct_names xs p.1)

names_from_distinct : (xs : List Entry) → IsDistinct bytes_eq (map name_of xs) → names_differ (entries_view xs) ≡ true
names_from_distinct [] h = refl
names_from_distinct (x ∷ xs) h =
    ap₂ (λ a b. not a && b) (has_none (name_of x) xs (IsDistinct-head bytes_eq (name_of x) (map name_of xs) h)) (names_from_distinct xs (IsDistinct-tail bytes_eq (name_of x) (map name_of xs) h))

pub flipped : (k l : List ℕ) → bytes_eq k l ≡ bytes_eq l k
flipped k l = go (bytes_eq k l) refl (bytes_eq l k) refl
  where
    go : (a : Bool) → bytes_eq k l ≡ a → (b : Bool) → bytes_eq l k ≡ b → a ≡ b
    go true e true f = refl
    go false e false f = refl
    go true e false f = let g : bytes_eq l k ≡ true = (bytes_eq-Decides l k).1 (sym ((bytes_eq-Decides k l).0 e)) in cc
    go false e true f = let g : bytes_eq k l ≡ true = (bytes_eq-Decides k l).1 (sym ((bytes_eq-Decides l k).0 f)) in cc

differ_in_any_order : (xs ys : List Entry) → IsPermutation xs ys → names_differ (entries_view xs) ≡ true → names_differ (entries_view ys) ≡ true
differ_in_any_order xs ys p h =
    names_from_distinct ys (IsDistinct-IsPermutation bytes_eq flipped (map name_of xs) (map name_of ys) (IsPermutation-map name_of xs ys p) (distinct_names xs h))

-- the names differ just as they do in another order
pub names_differ-IsPermutation : (xs ys : List Entry) → IsPermutation xs ys → names_differ (entries_view xs) ≡ names_differ (entries_view ys)
names_differ-IsPermutation xs ys p = go (names_differ (entries_view xs)) refl (names_differ (entries_view ys)) refl
  where
    go : (a : Bool) → names_differ (entries_view xs) ≡ a → (b : Bool) → names_differ (entries_view ys) ≡ b → a ≡ b
    go true e true f = refl
    go false e false f = refl
    go true e false f = let g = differ_in_any_order xs ys p e in cc
    go false e true f = let g = differ_in_any_order ys xs (IsPermutation-sym xs ys p) f in cc

-- whether there is a list in the order of the names tells whether they differ
pub differ_told : {V : Type 0} (items : V → List (Bor Entry)) (es : List Entry) (o : Option V) → MatchOption o (names_differ (entries_view es) ≡ false) (λ v. IsByName es (items v))
    → is_some o ≡ names_differ (entries_view es)
differ_told items es None h = sym h
differ_told items es (Some v) h = sym (names_differ-IsPermutation es (lent (items v)) h.0 ∙ rise_differ (entries_view (lent (items v))) h.1)
