-- What is found along a list of places, one place after the other.
use Rattle.std.proofs.Common.{◌≡◌, ◌∙◌, sym, ap, refl, ℕ, ◌+◌, ◌<◌, List, [], ◌∷◌, ◌++◌, length, drop, get_or, append_assoc, Option, None, Some}
use Rattle.std.proofs.lemmas.List.{at_drop_more}
use Rattle.feel_value.specs.Found.{◌>>=◌, each}
use Rattle.dmn_table.proofs.Each.{after}

after_more : {Y : Type 0} (ys : List Y) (y : Y) (o : Option (List Y)) → after ys (o >>= λ rest. Some (y ∷ rest)) ≡ after (ys ++ y ∷ []) o
after_more ys y None = refl
after_more ys y (Some rest) = ap Some (sym (append_assoc ys (y ∷ []) rest))

-- nothing is found at this place
pub each_none : {Y : Type 0} (f : ℕ → Option Y) (xs : List ℕ) (i : ℕ) (ys : List Y) (whole : Option (List Y)) → whole ≡ after ys (each f (drop i xs)) → i < length xs
    → f (get_or xs i 0) ≡ None → None ≡ whole
each_none {Y} f xs i ys whole before more none =
    sym (before ∙ ap (after ys) (at_drop_more (each f) xs i 0 more ∙ ap (λ (o : Option Y). o >>= λ y. each f (drop (i + 1) xs) >>= λ rest. Some (y ∷ rest)) none))

-- one place more
pub each_more : {Y : Type 0} (f : ℕ → Option Y) (xs : List ℕ) (i : ℕ) (ys : List Y) (y : Y) (whole : Option (List Y)) → whole ≡ after ys (each f (drop i xs)) → i < length xs
    → f (get_or xs i 0) ≡ Some y → whole ≡ after (ys ++ y ∷ []) (each f (drop (i + 1) xs))
each_more {Y} f xs i ys y whole before more found =
    before ∙ ap (after ys) (at_drop_more (each f) xs i 0 more ∙ ap (λ (o : Option Y). o >>= λ z. each f (drop (i + 1) xs) >>= λ rest. Some (z ∷ rest)) found)
    ∙ after_more ys y (each f (drop (i + 1) xs))
