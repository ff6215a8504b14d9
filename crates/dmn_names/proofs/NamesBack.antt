-- The name that stands at a place, and the place of the name that stands there, where no name stands twice.
use Rattle.std.proofs.Common.{◌≡◌, ℕ, ◌+◌, ◌<◌, zero, suc, List, [], ◌∷◌, ◌++◌, map, length, get_or, Option, Some, None, option_map, refl, sym, ap, ap₂, subst, ◌∙◌, Bool, true, false, not, ◌&&◌, ◌||◌, if◌then◌else◌, arith}
use Rattle.std.specs.Prelude.{bytes_eq}
use Rattle.std.specs.List.{list_any}
use Rattle.std.proofs.lemmas.List.{get_or-append-add}
use Rattle.std.proofs.lemmas.List.Folds.{list_any_at}
use Rattle.std.proofs.lemmas.Slice.Eq.{bytes_eq-Decides}
use Rattle.dmn_form.specs.Model.{Name}
use Rattle.dmn_form.specs.Draft.{Draft}
use Rattle.feel_value.specs.Found.{◌>>=◌, each}
use Rattle.dmn_names.specs.Parts.{decision_names, value_names, part_lists, service_names}
use Rattle.dmn_names.specs.Names.{have_twice, has_name_twice}
use Rattle.feel_value.specs.Distinct.{is_among, are_distinct}
use Rattle.dmn_names.specs.Places.{place_among, decision_place}

first_or_later : (b : Bool) (o : Option ℕ) (n m : Name) (ms : List Name) (p : ℕ) (d : Name) → (b ≡ true → n ≡ m) → ((k : ℕ) → o ≡ Some k → get_or ms k d ≡ n)
    → (if b then Some 0 else option_map suc o) ≡ Some p → get_or (m ∷ ms) p d ≡ n
first_or_later true o n m ms p d h g e = let is : 0 ≡ p = cc in subst (λ k. get_or (m ∷ ms) k d ≡ n) is (sym (h refl))
first_or_later false None n m ms p d h g e = cc
first_or_later false (Some k) n m ms p d h g e = let is : suc k ≡ p = cc in subst (λ k. get_or (m ∷ ms) k d ≡ n) is (g k refl)

-- the name stands at its place
pub name_at_place : (ns : List Name) (n : Name) (p : ℕ) (d : Name) → place_among ns n ≡ Some p → get_or ns p d ≡ n
name_at_place [] n p d e = cc
name_at_place (m ∷ ms) n p d e =
    first_or_later (bytes_eq n m) (place_among ms n) n m ms p d ((bytes_eq-Decides n m).0) (λ k f. name_at_place ms n k d f) e

behind_others : (xs ys : List Name) (n : Name) (o : Option ℕ) (p : ℕ) (d : Name) → ((i : ℕ) → o ≡ Some i → get_or ys i d ≡ n) → option_map (λ i. length xs + i) o ≡ Some p → get_or (xs ++ ys) p d ≡ n
behind_others xs ys n None p d h e = cc
behind_others xs ys n (Some i) p d h e =
    let is : length xs + i ≡ p = cc in subst (λ k. get_or (xs ++ ys) k d ≡ n) is (get_or-append-add xs ys i d ∙ h i refl)

pub decision_at_place : (m : Draft) (n : Name) (p : ℕ) (d : Name) → decision_place m n ≡ Some p → get_or (value_names m) p d ≡ n
decision_at_place m n p d e = behind_others m.inputs (decision_names m) n (place_among (decision_names m) n) p d (λ i f. name_at_place (decision_names m) n i d f) e

back_one : {X Y : Type 0} (g : Y → X) (x : X) (xs : List X) (o : Option Y) (p : Option (List Y)) (ys : List Y)
    → ((y : Y) → o ≡ Some y → g y ≡ x) → ((zs : List Y) → p ≡ Some zs → map g zs ≡ xs) → (o >>= λ y. p >>= λ zs. Some (y ∷ zs)) ≡ Some ys → map g ys ≡ x ∷ xs
back_one g x xs None p ys h f e = cc
back_one g x xs (Some y) None ys h f e = cc
back_one g x xs (Some y) (Some zs) ys h f e = let same : ys ≡ y ∷ zs = cc in ap (map g) same ∙ ap₂ (λ a b. a ∷ b) (h y refl) (f zs refl)

-- what was found for each leads back to it
pub each_back : {X Y : Type 0} (f : X → Option Y) (g : Y → X) → ((x : X) (y : Y) → f x ≡ Some y → g y ≡ x) → (xs : List X) (ys : List Y) → each f xs ≡ Some ys → map g ys ≡ xs
each_back f g h [] ys e = let same : ys ≡ [] = cc in ap (map g) same
each_back f g h (x ∷ xs) ys e = back_one g x xs (f x) (each f xs) ys (h x) (each_back f g h xs) e

pub both : (a b : Bool) → (a && b) ≡ true → (a ≡ true) × (b ≡ true)
both true b e = (refl, e)
both false b e = cc

no_more : (a b : Bool) → (a || b) ≡ false → a ≡ false
no_more true b e = cc
no_more false b e = refl

pub not_so : (b : Bool) → not b ≡ true → b ≡ false
not_so true e = cc
not_so false e = refl

pub so : (b : Bool) → not b ≡ false → b ≡ true
so true e = refl
so false e = cc

-- a name of the list is not one that the list lacks
apart : (ms : List Name) (m : Name) (i : ℕ) (d : Name) (b : Bool) → is_among ms m ≡ false → i < length ms → bytes_eq (get_or ms i d) m ≡ b → b ≡ false
apart ms m i d false h l e = refl
apart ms m i d true h l e =
    let same : get_or ms i d ≡ m = (bytes_eq-Decides (get_or ms i d) m).0 e in
    let there : is_among ms m ≡ true = list_any_at (bytes_eq m) ms i d l ((bytes_eq-Decides m (get_or ms i d)).1 (sym same)) in
    sym there ∙ h

-- where no name stands twice, each stands at its place alone
pub place_of_name_at : (ns : List Name) (i : ℕ) (d : Name) → are_distinct ns ≡ true → i < length ns → place_among ns (get_or ns i d) ≡ Some i
place_of_name_at [] i d h l = absurd (omega arith)
place_of_name_at (m ∷ ms) zero d h l = ap (λ b. if b then Some 0 else option_map suc (place_among ms m)) ((bytes_eq-Decides m m).1 refl)
place_of_name_at (m ∷ ms) (suc i) d h l =
    let parts = both (not (is_among ms m)) (are_distinct ms) h in
    let lt : i < length ms = omega arith in
    ap (λ b. if b then Some 0 else option_map suc (place_among ms (get_or ms i d)))
    (apart ms m i d (bytes_eq (get_or ms i d) m) (not_so (is_among ms m) parts.0) lt refl)
    ∙ ap (option_map suc) (place_of_name_at ms i d parts.1 lt)

-- a model in which no name stands twice has each value's name once
pub distinct_values : (m : Draft) → has_name_twice m ≡ false → are_distinct (value_names m) ≡ true
distinct_values m e = so (are_distinct (value_names m)) (no_more (have_twice (value_names m)) (have_twice (service_names m) || list_any have_twice (part_lists m)) e)
