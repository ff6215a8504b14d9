-- Values are one and the same where their parts are.
use Rattle.std.proofs.Common.{◌≡◌, suc, Bool, true, false, ◌&&◌, List, [], ◌∷◌, length, refl, sym, ap, ap₂, ◌∙◌, true≢false, ◌↔◌, IsTrue, ℕ, ◌+◌, ◌<◌, ◌≤◌, drop, get_or, subst}
use Rattle.std.specs.Arc.{arc_str_bytes}
use Rattle.std.proofs.lemmas.List.{at_drop_more, drop_all}
use Rattle.std.specs.Prelude.{bytes_eq}
use Rattle.std.specs.Bool.{Decides}
use Rattle.std.specs.Cmp.Lexicographic.{pointwise}
use Rattle.std.proofs.lemmas.Bool.Decides.{Decides-int_eq}
use Rattle.std.proofs.lemmas.Slice.Eq.{bytes_eq-Decides, slice_eq-Decides}
use Rattle.feel_value.proofs.Booleans.{and_false}
use Rattle.feel_value.specs.Comparison.{bool_eq}
use Rattle.feel_value.specs.Datum.{Datum, null, boolean, number, text, list, context, Items, no_items, item, Entries, no_entries, entry}
use Rattle.feel_value.specs.View.{datum_of, items_view, entries_view}
use Rattle.feel_value.specs.declared.value.Value.{Value}
use Rattle.feel_value.proofs.Entries.{Entry}
use Rattle.dmn_plan.specs.Identical.{is_same, are_same_items, are_same_entries}

-- ---- what the tests decide

bool_itself : (b : Bool) → bool_eq b b ≡ true
bool_itself true = refl
bool_itself false = refl

bool_same : (b c : Bool) → bool_eq b c ≡ true → b ≡ c
bool_same true true h = refl
bool_same true false h = absurd (true≢false (sym h))
bool_same false true h = absurd (true≢false (sym h))
bool_same false false h = refl

both : (b c : Bool) → (b && c) ≡ true → (b ≡ true) × (c ≡ true)
both true c h = (refl, h)
both false c h = absurd (true≢false (sym h))

mutual
  itself : (d : Datum) → is_same d d ≡ true
  itself null = refl
  itself (boolean b) = bool_itself b
  itself (number z) = (Decides-int_eq z z).1 refl
  itself (text s) = (bytes_eq-Decides s s).1 refl
  itself (list ds) = items_themselves ds
  itself (context es) = entries_themselves es

  items_themselves : (ds : Items) → are_same_items ds ds ≡ true
  items_themselves no_items = refl
  items_themselves (item d ds) = ap₂ (λ a b. a && b) (itself d) (items_themselves ds)

  entries_themselves : (es : Entries) → are_same_entries es es ≡ true
  entries_themselves no_entries = refl
  entries_themselves (entry n d es) = ap₂ (λ a b. a && b) ((bytes_eq-Decides n n).1 refl) (ap₂ (λ a b. a && b) (itself d) (entries_themselves es))

mutual
  same_is : (d e : Datum) → is_same d e ≡ true → d ≡ e
  same_is null null h = refl
  same_is null (boolean c) h = absurd (true≢false (sym h))
  same_is null (number y) h = absurd (true≢false (sym h))
  same_is null (text t) h = absurd (true≢false (sym h))
  same_is null (list es) h = absurd (true≢false (sym h))
  same_is null (context es) h = absurd (true≢false (sym h))
  same_is (boolean b) null h = absurd (true≢false (sym h))
  same_is (boolean b) (boolean c) h = ap boolean (bool_same b c h)
  same_is (boolean b) (number y) h = absurd (true≢false (sym h))
  same_is (boolean b) (text t) h = absurd (true≢false (sym h))
  same_is (boolean b) (list es) h = absurd (true≢false (sym h))
  same_is (boolean b) (context es) h = absurd (true≢false (sym h))
  same_is (number x) null h = absurd (true≢false (sym h))
  same_is (number x) (boolean c) h = absurd (true≢false (sym h))
  same_is (number x) (number y) h = ap number ((Decides-int_eq x y).0 h)
  same_is (number x) (text t) h = absurd (true≢false (sym h))
  same_is (number x) (list es) h = absurd (true≢false (sym h))
  same_is (number x) (context es) h = absurd (true≢false (sym h))
  same_is (text s) null h = absurd (true≢false (sym h))
  same_is (text s) (boolean c) h = absurd (true≢false (sym h))
  same_is (text s) (number y) h = absurd (true≢false (sym h))
  same_is (text s) (text t) h = ap text ((bytes_eq-Decides s t).0 h)
  same_is (text s) (list es) h = absurd (true≢false (sym h))
  same_is (text s) (context es) h = absurd (true≢false (sym h))
  same_is (list ds) null h = absurd (true≢false (sym h))
  same_is (list ds) (boolean c) h = absurd (true≢false (sym h))
  same_is (list ds) (number y) h = absurd (true≢false (sym h))
  same_is (list ds) (text t) h = absurd (true≢false (sym h))
  same_is (list ds) (list es) h = ap list (same_items_are ds es h)
  same_is (list ds) (context es) h = absurd (true≢false (sym h))
  same_is (context ds) null h = absurd (true≢false (sym h))
  same_is (context ds) (boolean c) h = absurd (true≢false (sym h))
  same_is (context ds) (number y) h = absurd (true≢false (sym h))
  same_is (context ds) (text t) h = absurd (true≢false (sym h))
  same_is (context ds) (list es) h = absurd (true≢false (sym h))
  same_is (context ds) (context es) h = ap context (same_entries_are ds es h)

  same_items_are : (ds es : Items) → are_same_items ds es ≡ true → ds ≡ es
  same_items_are no_items no_items h = refl
  same_items_are no_items (item e es) h = absurd (true≢false (sym h))
  same_items_are (item d ds) no_items h = absurd (true≢false (sym h))
  same_items_are (item d ds) (item e es) h = let p = both (is_same d e) (are_same_items ds es) h in ap₂ item (same_is d e p.0) (same_items_are ds es p.1)

  same_entries_are : (ds es : Entries) → are_same_entries ds es ≡ true → ds ≡ es
  same_entries_are no_entries no_entries h = refl
  same_entries_are no_entries (entry n e es) h = absurd (true≢false (sym h))
  same_entries_are (entry n d ds) no_entries h = absurd (true≢false (sym h))
  same_entries_are (entry n d ds) (entry m e es) h =
      let p = both (bytes_eq n m) (is_same d e && are_same_entries ds es) h in
      let q = both (is_same d e) (are_same_entries ds es) p.1 in
      let names = (bytes_eq-Decides n m).0 p.0 in
      let values = same_is d e q.0 in
      let rest = same_entries_are ds es q.1 in
      λ i. entry (names i) (values i) (rest i)

-- the test decides whether two values are one
pub is_same-Decides : (d e : Datum) → Decides (is_same d e) (d ≡ e)
is_same-Decides d e = (same_is d e, λ p. ap (is_same d) (sym p) ∙ itself d)

-- ---- lists of two lengths

pub other_items : (xs ys : List Value) → (length xs ≡ length ys → ⊥) → are_same_items (items_view xs) (items_view ys) ≡ false
other_items [] [] h = absurd (h refl)
other_items [] (y ∷ ys) h = refl
other_items (x ∷ xs) [] h = refl
other_items (x ∷ xs) (y ∷ ys) h = and_false (is_same (datum_of x) (datum_of y)) _ (other_items xs ys (λ e. h (ap suc e)))

pub other_entries : (xs ys : List Entry) → (length xs ≡ length ys → ⊥) → are_same_entries (entries_view xs) (entries_view ys) ≡ false
other_entries [] [] h = absurd (h refl)
other_entries [] (y ∷ ys) h = refl
other_entries (x ∷ xs) [] h = refl
other_entries (x ∷ xs) (y ∷ ys) h =
    let later = other_entries xs ys (λ e. h (ap suc e)) in
    and_false (bytes_eq (arc_str_bytes x.0) (arc_str_bytes y.0)) _ (and_false (is_same (datum_of x.1) (datum_of y.1)) _ later)

pub other_values : (xs ys : List Datum) → (length xs ≡ length ys → ⊥) → pointwise is_same xs ys ≡ false
other_values [] [] h = absurd (h refl)
other_values [] (y ∷ ys) h = refl
other_values (x ∷ xs) [] h = refl
other_values (x ∷ xs) (y ∷ ys) h = and_false (is_same x y) _ (other_values xs ys (λ e. h (ap suc e)))

-- ---- lists of values, one place after the other

pub values_decide : (xs ys : List Datum) (b : Bool) → b ≡ pointwise is_same xs ys → IsTrue b ↔ (xs ≡ ys)
values_decide xs ys b e = slice_eq-Decides is_same-Decides xs ys b e

-- two other values at one place
pub values_differ : (xs ys : List Datum) (i : ℕ) (x y : Datum) → x ≡ get_or xs i x → y ≡ get_or ys i y → i < length xs → length xs ≡ length ys → is_same x y ≡ false
    → pointwise is_same (drop i xs) (drop i ys) ≡ false
values_differ xs ys i x y e f within many other =
    let rest = pointwise is_same (drop (i + 1) xs) (drop (i + 1) ys) in
    at_drop_more (λ l. pointwise is_same l (drop i ys)) xs i x within
    ∙ at_drop_more (λ l. pointwise is_same (get_or xs i x ∷ drop (i + 1) xs) l) ys i y (subst (λ n. i < n) many within)
    ∙ ap₂ (λ a b. is_same a b && rest) (sym e) (sym f) ∙ ap (λ b. b && rest) other

-- no place is left
pub values_end : (xs ys : List Datum) (i : ℕ) → length xs ≤ i → length xs ≡ length ys → pointwise is_same (drop i xs) (drop i ys) ≡ true
values_end xs ys i past many = ap₂ (pointwise is_same) (drop_all i xs past) (drop_all i ys (subst (λ n. n ≤ i) many past))
