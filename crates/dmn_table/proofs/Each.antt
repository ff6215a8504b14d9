-- What is found for each of a list, one element at a time.
use Rattle.std.proofs.Common.{◌≡◌, ℕ, suc, ◌+◌, ◌<◌, ◌≤◌, List, [], ◌∷◌, ◌++◌, map, length, get_or, drop, refl, sym, ap, ◌∙◌, append_assoc, Option, None, Some, option_map}
use Rattle.std.proofs.lemmas.Option.{same_Some}
use Rattle.std.proofs.lemmas.List.{append-nil, at_drop_more, drop_all}
use Rattle.feel_value.specs.Found.{each, ◌>>=◌}

-- what was found so far, and what is found for the rest
abbrev pub after : {Y : Type 0} → List Y → Option (List Y) → Option (List Y)
after ys o = option_map (λ rest. ys ++ rest) o

pub each_end : {X Y : Type 0} (f : X → Option Y) (ys : List Y) → after ys (each f []) ≡ Some ys
each_end f ys = ap Some (append-nil ys)

pub after_more : {Y : Type 0} (ys : List Y) (y : Y) (o : Option (List Y)) → after ys (o >>= λ rest. Some (y ∷ rest)) ≡ after (ys ++ y ∷ []) o
after_more ys y None = refl
after_more ys y (Some rest) = ap Some (sym (append_assoc ys (y ∷ []) rest))

pub after_none : {Y : Type 0} (o : Option (List Y)) → o ≡ after [] o
after_none None = refl
after_none (Some ys) = refl

-- What is found for a list, where `rest` finds it for the rest of the list, element by element by `f`.

-- nothing is found yet
pub rest_begun : {A Y : Type 0} (rest : List A → Option (List Y)) (ys : List Y) (xs : List A) → ys ≡ [] → rest xs ≡ after ys (rest (drop 0 xs))
rest_begun rest ys xs e = after_none (rest xs) ∙ ap (λ zs. after zs (rest xs)) (sym e)

-- all is found
pub rest_done : {A Y : Type 0} (rest : List A → Option (List Y)) → rest [] ≡ Some [] → (whole : Option (List Y)) (ys : List Y) (xs : List A) (i : ℕ)
    → whole ≡ after ys (rest (drop i xs)) → length xs ≤ i → Some ys ≡ whole
rest_done rest ended whole ys xs i before h =
    sym (before ∙ ap (λ bs. after ys (rest bs)) (drop_all i xs h) ∙ ap (after ys) ended ∙ ap Some (append-nil ys))

-- what is found from the element at i on, by what is found for that
pub rest_from : {A Y : Type 0} (f : A → Option Y) (rest : List A → Option (List Y)) → ((a : A) (bs : List A) → rest (a ∷ bs) ≡ (f a >>= λ y. rest bs >>= λ ys. Some (y ∷ ys)))
    → (xs : List A) (i : ℕ) (a : A) (o : Option Y) → a ≡ get_or xs i a → i < length xs → f a ≡ o → rest (drop i xs) ≡ (o >>= λ y. rest (drop (i + 1) xs) >>= λ ys. Some (y ∷ ys))
rest_from f rest step xs i a o e h found =
    at_drop_more rest xs i a h ∙ ap (λ b. rest (b ∷ drop (i + 1) xs)) (sym e) ∙ step a (drop (i + 1) xs)
    ∙ ap (λ p. p >>= λ y. rest (drop (i + 1) xs) >>= λ ys. Some (y ∷ ys)) found

-- nothing is found for the next element
pub rest_none : {A Y : Type 0} (f : A → Option Y) (rest : List A → Option (List Y)) → ((a : A) (bs : List A) → rest (a ∷ bs) ≡ (f a >>= λ y. rest bs >>= λ ys. Some (y ∷ ys)))
    → (whole : Option (List Y)) (ys : List Y) (xs : List A) (i : ℕ) (a : A)
    → whole ≡ after ys (rest (drop i xs)) → a ≡ get_or xs i a → i < length xs → f a ≡ None → None ≡ whole
rest_none f rest step whole ys xs i a before e h none = sym (before ∙ ap (after ys) (rest_from f rest step xs i a None e h none))

-- one element more is found
pub rest_more : {A Y : Type 0} (f : A → Option Y) (rest : List A → Option (List Y)) → ((a : A) (bs : List A) → rest (a ∷ bs) ≡ (f a >>= λ y. rest bs >>= λ ys. Some (y ∷ ys)))
    → (whole : Option (List Y)) (ys zs : List Y) (y : Y) (xs : List A) (i : ℕ) (a : A)
    → whole ≡ after ys (rest (drop i xs)) → a ≡ get_or xs i a → i < length xs → f a ≡ Some y → zs ≡ ys ++ y ∷ []
    → whole ≡ after zs (rest (drop (i + 1) xs))
rest_more f rest step whole ys zs y xs i a before e h found pushed =
    before ∙ ap (after ys) (rest_from f rest step xs i a (Some y) e h found)
    ∙ after_more ys y (rest (drop (i + 1) xs))
    ∙ ap (λ bs. after bs (rest (drop (i + 1) xs))) (sym pushed)

-- The same where each element is shown first.

pub each_begun : {A X Y : Type 0} (f : X → Option Y) (shown : A → X) (ys : List Y) (xs : List A) → ys ≡ [] → each f (map shown xs) ≡ after ys (each f (map shown (drop 0 xs)))
each_begun f shown = rest_begun (λ xs. each f (map shown xs))

pub each_done : {A X Y : Type 0} (f : X → Option Y) (shown : A → X) (whole : Option (List Y)) (ys : List Y) (xs : List A) (i : ℕ)
    → whole ≡ after ys (each f (map shown (drop i xs))) → length xs ≤ i → Some ys ≡ whole
each_done f shown = rest_done (λ xs. each f (map shown xs)) refl

pub each_none : {A X Y : Type 0} (f : X → Option Y) (shown : A → X) (whole : Option (List Y)) (ys : List Y) (xs : List A) (i : ℕ) (a : A)
    → whole ≡ after ys (each f (map shown (drop i xs))) → a ≡ get_or xs i a → i < length xs → f (shown a) ≡ None → None ≡ whole
each_none f shown = rest_none (λ a. f (shown a)) (λ xs. each f (map shown xs)) (λ a bs. refl)

pub each_more : {A X Y : Type 0} (f : X → Option Y) (shown : A → X) (whole : Option (List Y)) (ys zs : List Y) (y : Y) (xs : List A) (i : ℕ) (a : A)
    → whole ≡ after ys (each f (map shown (drop i xs))) → a ≡ get_or xs i a → i < length xs → f (shown a) ≡ Some y → zs ≡ ys ++ y ∷ []
    → whole ≡ after zs (each f (map shown (drop (i + 1) xs)))
each_more f shown = rest_more (λ a. f (shown a)) (λ xs. each f (map shown xs)) (λ a bs. refl)

-- each list that is found has as many elements
pub each_length : {X Y : Type 0} (f : X → Option Y) (xs : List X) (ys : List Y) → each f xs ≡ Some ys → length ys ≡ length xs
each_length f [] ys e = sym (ap length (same_Some _ _ e))
each_length {X} {Y} f (x ∷ xs) ys e = go (f x) (each f xs) (λ zs g. each_length f xs zs g) e
  where
    go : (o : Option Y) (p : Option (List Y)) → ((zs : List Y) → p ≡ Some zs → length zs ≡ length xs) → (o >>= λ y. p >>= λ zs. Some (y ∷ zs)) ≡ Some ys → length ys ≡ suc (length xs)
    go None p g e = cc
    go (Some y) None g e = cc
    go (Some y) (Some zs) g e = sym (ap length (same_Some _ _ e)) ∙ ap suc (g zs refl)
