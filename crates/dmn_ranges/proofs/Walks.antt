-- Walks over a list, one element at a time, and over two lists at once.
use Rattle.std.proofs.Common.{◌≡◌, ◌∙◌, refl, sym, ap, ℕ, suc, List, [], ◌∷◌, ◌+◌, ◌<◌, ◌≤◌, length, get_or, drop, map}
use Rattle.std.specs.List.{fold, zip}
use Rattle.std.proofs.lemmas.List.{at_drop_more, drop_all}

-- one element more
pub walk_on : {A X B : Type 0} (f : B → X → B) (shown : A → X) (whole acc next : B) (xs : List A) (i : ℕ) (a : A) → whole ≡ fold f acc (map shown (drop i xs)) → a ≡ get_or xs i a → i < length xs → next ≡ f acc (shown a)
    → whole ≡ fold f next (map shown (drop (i + 1) xs))
walk_on f shown whole acc next xs i a before e h q =
    before
    ∙ at_drop_more (λ ys. fold f acc (map shown ys)) xs i a h
    ∙ ap (λ b. fold f (f acc (shown b)) (map shown (drop (i + 1) xs))) (sym e)
    ∙ ap (λ t. fold f t (map shown (drop (i + 1) xs))) (sym q)

-- all are behind
pub walk_done : {A X B : Type 0} (f : B → X → B) (shown : A → X) (whole acc : B) (xs : List A) (i : ℕ) → whole ≡ fold f acc (map shown (drop i xs)) → length xs ≤ i → acc ≡ whole
walk_done f shown whole acc xs i before h = sym (before ∙ ap (λ ys. fold f acc (map shown ys)) (drop_all i xs h))

-- the same of elements as they are
pub fold_on : {A B : Type 0} (f : B → A → B) (whole acc next : B) (xs : List A) (i : ℕ) (a : A) → whole ≡ fold f acc (drop i xs) → a ≡ get_or xs i a → i < length xs → next ≡ f acc a → whole ≡ fold f next (drop (i + 1) xs)
fold_on f whole acc next xs i a before e h q =
    before ∙ at_drop_more (λ ys. fold f acc ys) xs i a h ∙ ap (λ b. fold f (f acc b) (drop (i + 1) xs)) (sym e) ∙ ap (λ t. fold f t (drop (i + 1) xs)) (sym q)

-- an element that a number names
pub fold_at : {A B : Type 0} (f : B → A → B) (whole acc next : B) (xs : List A) (i : ℕ) (d : A) → whole ≡ fold f acc (drop i xs) → i < length xs → next ≡ f acc (get_or xs i d) → whole ≡ fold f next (drop (i + 1) xs)
fold_at f whole acc next xs i d before h q = before ∙ at_drop_more (λ ys. fold f acc ys) xs i d h ∙ ap (λ t. fold f t (drop (i + 1) xs)) (sym q)

pub fold_done : {A B : Type 0} (f : B → A → B) (whole acc : B) (xs : List A) (i : ℕ) → whole ≡ fold f acc (drop i xs) → length xs ≤ i → acc ≡ whole
fold_done f whole acc xs i before h = sym (before ∙ ap (λ ys. fold f acc ys) (drop_all i xs h))

-- one pair more
pub pair_on : {A X B : Type 0} (f : B → A × X → B) (whole acc next : B) (rests ts : List A) (others vs : List X) (t : A) (v : X) → whole ≡ fold f acc (zip rests others) → rests ≡ t ∷ ts → others ≡ v ∷ vs → next ≡ f acc (t, v)
    → whole ≡ fold f next (zip ts vs)
pair_on f whole acc next rests ts others vs t v before first second q =
    before
    ∙ ap (λ xs. fold f acc (zip xs others)) first
    ∙ ap (λ ys. fold f acc (zip (t ∷ ts) ys)) second
    ∙ ap (λ b. fold f b (zip ts vs)) (sym q)

pub zip_none : {A X : Type 0} (xs : List A) → zip {X = X} xs [] ≡ []
zip_none [] = refl
zip_none (x ∷ xs) = refl

pub same_length : {A B : Type 0} (f : A → B) (xs : List A) → length (map f xs) ≡ length xs
same_length f [] = refl
same_length f (x ∷ xs) = ap suc (same_length f xs)
