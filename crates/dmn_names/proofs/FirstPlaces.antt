-- The first places of names that are put in one after another.
use Rattle.std.proofs.Common.{◌≡◌, ℕ, ◌+◌, ◌<◌, ◌≤◌, suc, List, drop, length, get_or, Option, Some, None, is_some, option_map, refl, sym, ap, ◌∙◌, Bool, true, false, if◌then◌else◌, cond, Bor, String, Global, string_bytes, bytes_eq, arith}
use Rattle.std.specs.BTreeMap.{BTreeMap, get_by_text, Updates}
use Rattle.std.specs.String.{string_cmp}
use Rattle.std.proofs.lemmas.List.{at_drop_all, get_or_default}
use Rattle.std.proofs.lemmas.Map.Text.{btree_map_updates_text}
use Rattle.feel_value.proofs.ByName.{flipped}
use Rattle.feel_text.proofs.Bindings.{same_text}
use Rattle.dmn_form.specs.Model.{Name}
use Rattle.dmn_names.specs.Places.{place_among}
use Rattle.dmn_names.specs.Index.{names_in, first_of, place_if}
use Rattle.dmn_names.proofs.Indexing.{from_place, at_first, a_turn, at_place}

-- ---- one name

put_where_none : (i : ℕ) (b : Bool) (o : Option ℕ) → (b ≡ true → is_some o ≡ false) → cond b (Some i) o ≡ first_of o (place_if b i)
put_where_none i true None h = refl
put_where_none i true (Some k) h = let e : true ≡ false = h refl in cc
put_where_none i false None h = refl
put_where_none i false (Some k) h = refl

kept_where_some : (i : ℕ) (b : Bool) (o : Option ℕ) → (b ≡ true → is_some o ≡ true) → o ≡ first_of o (place_if b i)
kept_where_some i true None h = let e : false ≡ true = h refl in cc
kept_where_some i true (Some k) h = refl
kept_where_some i false None h = refl
kept_where_some i false (Some k) h = refl

pub name_put : (old new : BTreeMap (String Global) ℕ) (s : String Global) (i : ℕ) → Updates string_cmp old new s (Some i) → is_some (get_by_text old (string_bytes s)) ≡ false
    → (other : Name) → get_by_text new other ≡ first_of (get_by_text old other) (place_if (bytes_eq (string_bytes s) other) i)
name_put old new s i put absent other =
    btree_map_updates_text (string_bytes s) old new (Some i) put other
    ∙ put_where_none i (bytes_eq (string_bytes s) other) (get_by_text old other) (λ e. ap (λ t. is_some (get_by_text old t)) (sym (same_text (string_bytes s) other e)) ∙ absent)

pub name_kept : (old : BTreeMap (String Global) ℕ) (s : Name) (i : ℕ) → is_some (get_by_text old s) ≡ true
    → (other : Name) → get_by_text old other ≡ first_of (get_by_text old other) (place_if (bytes_eq s other) i)
name_kept old s i present other =
    kept_where_some i (bytes_eq s other) (get_by_text old other) (λ e. ap (λ t. is_some (get_by_text old t)) (sym (same_text s other e)) ∙ present)

-- ---- one name after another

-- the place of a name by those that were put in, and else among the names to come
abbrev pub SoFar : List (Bor (List ℕ)) → ℕ → BTreeMap (String Global) ℕ → Type 0
SoFar xs i places = (n : Name) → place_among (names_in xs) n ≡ first_of (get_by_text places n) (from_place i (place_among (names_in (drop i xs)) n))

pub none_put : (xs : List (Bor (List ℕ))) (places : BTreeMap (String Global) ℕ) → ((n : Name) → get_by_text places n ≡ None) → SoFar xs 0 places
none_put xs places none n = at_first (place_among (names_in xs) n) ∙ ap (λ o. first_of o (from_place 0 (place_among (names_in xs) n))) (sym (none n))

turn : (i : ℕ) (old : Option ℕ) (b : Bool) (p : Option ℕ) → first_of old (from_place i (if b then Some 0 else option_map suc p)) ≡ first_of (first_of old (place_if b i)) (from_place (i + 1) p)
turn i (Some k) b p = refl
turn i None true p = ap Some (omega arith)
turn i None false p = a_turn i p

pub one_put : (xs : List (Bor (List ℕ))) (i : ℕ) (d : Bor (List ℕ)) (old new : BTreeMap (String Global) ℕ) → SoFar xs i old → i < length xs
    → ((n : Name) → get_by_text new n ≡ first_of (get_by_text old n) (place_if (bytes_eq (get_or xs i d).now n) i)) → SoFar xs (i + 1) new
one_put xs i d old new before more put n =
    let x = get_or xs i d in
    let rest = place_among (names_in (drop (i + 1) xs)) n in
    before n ∙ ap (λ o. first_of (get_by_text old n) (from_place i o)) (at_place xs i x n (get_or_default xs i d x more) more)
    ∙ turn i (get_by_text old n) (bytes_eq n x.now) rest
    ∙ ap (λ b. first_of (first_of (get_by_text old n) (place_if b i)) (from_place (i + 1) rest)) (flipped n x.now)
    ∙ ap (λ o. first_of o (from_place (i + 1) rest)) (sym (put n))

none_behind : (o : Option ℕ) → first_of o None ≡ o
none_behind None = refl
none_behind (Some k) = refl

pub all_put : (xs : List (Bor (List ℕ))) (i : ℕ) (places : BTreeMap (String Global) ℕ) → SoFar xs i places → length xs ≤ i → (n : Name) → get_by_text places n ≡ place_among (names_in xs) n
all_put xs i places before past n =
    sym (before n ∙ ap (λ o. first_of (get_by_text places n) (from_place i o)) (at_drop_all (λ ys. place_among (names_in ys) n) xs i past) ∙ none_behind (get_by_text places n))
