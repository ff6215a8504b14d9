-- Names that are found by their order, or one after another.
use Rattle.std.proofs.Common.{◌≡◌, ℕ, ◌+◌, ◌<◌, zero, suc, List, [], ◌∷◌, drop, length, get_or, Option, Some, None, option_map, MatchOption, refl, sym, ap, ap₂, ◌∙◌, Bool, true, false, if◌then◌else◌, Bor, bytes_eq, arith}
use Rattle.std.proofs.lemmas.List.{at_drop_more, get_or-map, length-map}
use Rattle.feel_text.specs.NameOrder.{IsInOrder, IsNameAt}
use Rattle.feel_text.proofs.Bindings.{same_text, text_itself}
use Rattle.feel_text.proofs.Ordered.{same_position}
use Rattle.dmn_form.specs.Model.{Name}
use Rattle.dmn_names.specs.Places.{place_among}
use Rattle.dmn_names.specs.Index.{names_in}
use Rattle.dmn_names.proofs.Placing.{place_within}
use Rattle.dmn_names.proofs.NamesBack.{name_at_place}

-- ---- by their order

no_place : (ns : List Name) (n : Name) → ((i : ℕ) → i < length ns → bytes_eq n (get_or ns i []) ≡ false) → place_among ns n ≡ None
no_place [] n h = refl
no_place (m ∷ ms) n h = ap₂ (λ b o. if b then Some 0 else option_map suc o) (h 0 (omega arith)) (no_place ms n (λ i w. h (suc i) (omega (arith, w))))

nowhere : (ns : List Name) (n : Name) (i : ℕ) → place_among ns n ≡ None → i < length ns → bytes_eq n (get_or ns i []) ≡ false
nowhere [] n i e w = absurd (omega (arith, w))
nowhere (m ∷ ms) n i e w = go (bytes_eq n m) (place_among ms n) i refl (λ k f v. nowhere ms n k f v) e w
  where
    go : (b : Bool) (o : Option ℕ) (i : ℕ) → bytes_eq n m ≡ b → ((k : ℕ) → o ≡ None → k < length ms → bytes_eq n (get_or ms k []) ≡ false)
        → (if b then Some 0 else option_map suc o) ≡ None → i < suc (length ms) → bytes_eq n (get_or (m ∷ ms) i []) ≡ false
    go true o i s g f w = cc
    go false (Some k) i s g f w = cc
    go false None zero s g f w = s
    go false None (suc i) s g f w = g i refl (omega (arith, w))

-- where no name stands twice, a name has the place at which it stands
pub place_there : (ns : List Name) (order : List ℕ) (n : Name) (i : ℕ) → IsInOrder ns order → IsNameAt ns n i → place_among ns n ≡ Some i
place_there ns order n i h at = go (place_among ns n) refl
  where
    go : (o : Option ℕ) → place_among ns n ≡ o → place_among ns n ≡ Some i
    go None e =
        let yes : bytes_eq n (get_or ns i []) ≡ true = ap (bytes_eq n) at.1 ∙ text_itself n in
        let no : true ≡ false = sym yes ∙ nowhere ns n i e at.0 in
        cc
    go (Some p) e = e ∙ ap Some (same_position ns order p i h (place_within ns n p e) at.0 (name_at_place ns n p [] e ∙ sym at.1))

-- what was found in the order
pub place_in : (xs : List (Bor (List ℕ))) (order : List ℕ) (n : Name) (o : Option ℕ) → IsInOrder (names_in xs) order
    → MatchOption o ((i : ℕ) → i < length xs → bytes_eq n (get_or (names_in xs) i []) ≡ false) (IsNameAt (names_in xs) n) → o ≡ place_among (names_in xs) n
place_in xs order n None h e = sym (no_place (names_in xs) n (λ i w. e i (rw (sym (length-map xs (λ (x : Bor (List ℕ)). x.now))) w)))
place_in xs order n (Some i) h e = sym (place_there (names_in xs) order n i h e)

-- a name that was looked at
pub named_at : (xs : List (Bor (List ℕ))) (i : ℕ) (x : Bor (List ℕ)) (n : Name) → x ≡ get_or xs i x → i < length xs → bytes_eq x.now n ≡ true → IsNameAt (names_in xs) n i
named_at xs i x n e w same =
    (rw (length-map xs (λ (x : Bor (List ℕ)). x.now)) w, get_or-map (λ (x : Bor (List ℕ)). x.now) xs i x [] w ∙ ap (λ (x : Bor (List ℕ)). x.now) (sym e) ∙ same_text x.now n same)

-- ---- one after another

-- a place of a list that begins at this place
abbrev pub from_place : ℕ → Option ℕ → Option ℕ
from_place i o = option_map (λ k. i + k) o

pub at_first : (o : Option ℕ) → o ≡ from_place 0 o
at_first None = refl
at_first (Some i) = ap Some (omega arith)

pub a_turn : (i : ℕ) (o : Option ℕ) → from_place i (option_map suc o) ≡ from_place (i + 1) o
a_turn i None = refl
a_turn i (Some k) = ap Some (omega arith)

pub at_place : (xs : List (Bor (List ℕ))) (i : ℕ) (x : Bor (List ℕ)) (n : Name) → x ≡ get_or xs i x → i < length xs
    → place_among (names_in (drop i xs)) n ≡ (if bytes_eq n x.now then Some 0 else option_map suc (place_among (names_in (drop (i + 1) xs)) n))
at_place xs i x n e w =
    at_drop_more (λ ys. place_among (names_in ys) n) xs i x w
    ∙ ap (λ (y : Bor (List ℕ)). if bytes_eq n y.now then Some 0 else option_map suc (place_among (names_in (drop (i + 1) xs)) n)) (sym e)
