-- Places that are put into an index one after another, and places by the columns' lists.
use Rattle.std.proofs.Common.{Ordering, Less, Equal, Greater, not, ◌≡◌, ℕ, ℤ, ◌+◌, ◌<◌, List, [], ◌∷◌, drop, length, get_or, Option, Some, None, is_some, refl, sym, ap, ◌∙◌, Bool, true, false, String, Global, string_bytes, cond, arith}
use Rattle.std.specs.Prelude.{bytes_eq}
use Rattle.std.specs.Option.{unwrap_or}
use Rattle.std.specs.Ordering.{int_cmp, is_eq}
use Rattle.std.specs.BTreeMap.{BTreeMap, get, get_by_text, Updates}
use Rattle.std.specs.String.{string_cmp}
use Rattle.std.proofs.lemmas.List.{at_drop_more}
use Rattle.std.proofs.lemmas.Map.Text.{btree_map_updates_text}
use Rattle.std.proofs.lemmas.Map.Lookups.{exact_signed}
use Rattle.std.proofs.lemmas.Slice.Eq.{bytes_eq-Decides}
use Rattle.feel_value.specs.Datum.{Datum}
use Rattle.feel_value.specs.Logic.{is_yes}
use Rattle.feel_value.specs.Comparison.{equal}
use Rattle.dmn_table.specs.Table.{Column}
use Rattle.dmn_table.specs.Priority.{place, places_of}
use Rattle.dmn_table.specs.Listed.{first_of, listed_values, place_if, places_among}

-- ---- one number, or one text

put_where_none : (i : ℕ) (b : Bool) (o : Option ℕ) → (b ≡ true → is_some o ≡ false) → cond b (Some i) o ≡ first_of o (place_if b i)
put_where_none i true None h = refl
put_where_none i true (Some k) h = let e : true ≡ false = h refl in cc
put_where_none i false None h = refl
put_where_none i false (Some k) h = refl

kept_where_some : (i : ℕ) (b : Bool) (o : Option ℕ) → (b ≡ true → is_some o ≡ true) → o ≡ first_of o (place_if b i)
kept_where_some i true None h = let e : false ≡ true = h refl in cc
kept_where_some i true (Some k) h = refl
kept_where_some i false None h = refl
kept_where_some i false (Some k) h = refl

is_equal : (r : Ordering) → is_eq r ≡ true → r ≡ Equal
is_equal Less e = cc
is_equal Equal e = refl
is_equal Greater e = cc

same_number : (x y : ℤ) → is_eq (int_cmp x y) ≡ true → y ≡ x
same_number x y e = sym (exact_signed x y (is_equal (int_cmp x y) e))

same_text : (s t : List ℕ) → bytes_eq s t ≡ true → t ≡ s
same_text s t e = sym ((bytes_eq-Decides s t).0 e)

pub number_put : (old new : BTreeMap ℤ ℕ) (z : ℤ) (i : ℕ) → Updates int_cmp old new z (Some i) → is_some (get int_cmp old z) ≡ false
    → (other : ℤ) → get int_cmp new other ≡ first_of (get int_cmp old other) (place_if (is_eq (int_cmp z other)) i)
number_put old new z i put absent other =
    put.0 other ∙ put_where_none i (is_eq (int_cmp z other)) (get int_cmp old other) (λ e. ap (λ k. is_some (get int_cmp old k)) (same_number z other e) ∙ absent)

pub number_kept : (old : BTreeMap ℤ ℕ) (z : ℤ) (i : ℕ) → is_some (get int_cmp old z) ≡ true
    → (other : ℤ) → get int_cmp old other ≡ first_of (get int_cmp old other) (place_if (is_eq (int_cmp z other)) i)
number_kept old z i present other =
    kept_where_some i (is_eq (int_cmp z other)) (get int_cmp old other) (λ e. ap (λ k. is_some (get int_cmp old k)) (same_number z other e) ∙ present)

pub text_put : (old new : BTreeMap (String Global) ℕ) (s : String Global) (i : ℕ) → Updates string_cmp old new s (Some i) → is_some (get_by_text old (string_bytes s)) ≡ false
    → (other : List ℕ) → get_by_text new other ≡ first_of (get_by_text old other) (place_if (bytes_eq (string_bytes s) other) i)
text_put old new s i put absent other =
    btree_map_updates_text (string_bytes s) old new (Some i) put other
    ∙ put_where_none i (bytes_eq (string_bytes s) other) (get_by_text old other) (λ e. ap (λ t. is_some (get_by_text old t)) (same_text (string_bytes s) other e) ∙ absent)

pub text_kept : (old : BTreeMap (String Global) ℕ) (s : List ℕ) (i : ℕ) → is_some (get_by_text old s) ≡ true
    → (other : List ℕ) → get_by_text old other ≡ first_of (get_by_text old other) (place_if (bytes_eq s other) i)
text_kept old s i present other =
    kept_where_some i (bytes_eq s other) (get_by_text old other) (λ e. ap (λ t. is_some (get_by_text old t)) (same_text s other e) ∙ present)

-- ---- a turn of the walk along the listed values

a_turn : (i p : ℕ) (old : Option ℕ) (b : Bool) → unwrap_or old (i + cond (not b) (1 + p) 0) ≡ unwrap_or (first_of old (place_if b i)) ((i + 1) + p)
a_turn i p (Some k) b = refl
a_turn i p None true = omega arith
a_turn i p None false = omega arith

pub after_turn : (ds : List Datum) (i : ℕ) (v d : Datum) (old new : Option ℕ)
    → place ds d ≡ unwrap_or old (i + place (drop i ds) d) → v ≡ get_or ds i v → i < length ds → new ≡ first_of old (place_if (is_yes (equal v d)) i)
    → place ds d ≡ unwrap_or new ((i + 1) + place (drop (i + 1) ds) d)
after_turn ds i v d old new before here more put =
    before ∙ at_drop_more (λ xs. unwrap_or old (i + place xs d)) ds i v more
    ∙ ap (λ x. unwrap_or old (i + place (x ∷ drop (i + 1) ds) d)) (sym here)
    ∙ a_turn i (place (drop (i + 1) ds) d) old (is_yes (equal v d))
    ∙ ap (λ o. unwrap_or o ((i + 1) + place (drop (i + 1) ds) d)) (sym put)

-- ---- the places of a rule's values

pub places_by_lists : (cs : List Column) (values : List Datum) → places_among (listed_values cs) values ≡ places_of cs values
places_by_lists [] values = refl
places_by_lists (c ∷ cs) [] = refl
places_by_lists (c ∷ cs) (v ∷ values) = ap (λ ps. place c.values v ∷ ps) (places_by_lists cs values)
