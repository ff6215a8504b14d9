-- What is told of the elements of a list, each by its place.
use Rattle.std.proofs.Common.{◌≡◌, ◌∙◌, sym, ap, refl, subst, ℕ, zero, suc, ◌+◌, ◌⊎◌, ◌<◌, List, [], ◌∷◌, ◌++◌, length, map, get_or, option_map, Some, inl, inr, arith}
use Rattle.std.specs.List.{slice_get, All}
use Rattle.std.proofs.lemmas.Option.{get_or_from_slice_get, same_Some, slice_get-get_or, slice_get-map, slice_get_within}
use Rattle.std.proofs.lemmas.List.Elements.{All-get_or}

pub pushed : {X : Type 0} (xs : List X) (x y : X) (w : ℕ) → slice_get (xs ++ x ∷ []) w ≡ Some y → (slice_get xs w ≡ Some y) ⊎ ((w ≡ length xs) × (x ≡ y))
pushed [] x y zero e = inr (refl, same_Some x y e)
pushed [] x y (suc w) e = cc
pushed (z ∷ xs) x y zero e = inl e
pushed (z ∷ xs) x y (suc w) e = elim (pushed xs x y w e) [ inl p ↦ inl p | inr q ↦ inr (ap suc q.0, q.1) ]

-- one element more, of each of which something is told by its place
pub told_more : {X : Type 0} (P : ℕ → X → Type 0) (old new : List X) (last : X) → ((w : ℕ) (x : X) → slice_get old w ≡ Some x → P w x) → new ≡ old ++ last ∷ [] → P (length old) last
    → (w : ℕ) (x : X) → slice_get new w ≡ Some x → P w x
told_more P old new last h more told w x there =
    elim (pushed old last x w (ap (λ xs. slice_get xs w) (sym more) ∙ there)) [
      | inl before ↦ h w x before
      | inr at ↦ subst (λ k. P k x) (sym at.0) (subst (P (length old)) at.1 told)
    ]

-- what holds of each holds of the one at a place
pub All-at : {X : Type 0} (P : X → Type 0) (xs : List X) (i : ℕ) (x : X) → All P xs → slice_get xs i ≡ Some x → P x
All-at P xs i x all there = subst P (get_or_from_slice_get xs i x x there) (All-get_or P xs i x (slice_get_within xs i x there) all)

-- the element that a loop looks at
pub at_place : {X : Type 0} (xs : List X) (i : ℕ) (x : X) → i < length xs → x ≡ get_or xs i x → slice_get xs i ≡ Some x
at_place xs i x within here = slice_get-get_or xs i x within ∙ ap Some (sym here)

-- what holds of each by its place holds of all
pub All-from_places : {X : Type 0} (P : X → Type 0) (xs : List X) → ((i : ℕ) (x : X) → slice_get xs i ≡ Some x → P x) → All P xs
All-from_places P xs h = λ k d within. h k (get_or xs k d) (slice_get-get_or xs k d within)

-- there is one at each place
pub element : {X : Type 0} (xs : List X) (i : ℕ) → i < length xs → (x : X) × (slice_get xs i ≡ Some x)
element [] i h = absurd (omega (arith, h))
element (x ∷ xs) zero h = (x, refl)
element (x ∷ xs) (suc i) h = element xs i (omega (arith, h))

-- a mapped element
pub map_at : {X Y : Type 0} (f : X → Y) (xs : List X) (i : ℕ) (x : X) → slice_get xs i ≡ Some x → slice_get (map f xs) i ≡ Some (f x)
map_at f xs i x h = slice_get-map f xs i ∙ ap (option_map f) h

-- what holds of each holds of one that was looked up
pub looked_up : {X : Type 0} (P : X → Type 0) (xs ys : List X) (i : ℕ) (x : X) → ys ≡ xs → i < length ys → x ≡ get_or ys i x → All P xs → P x
looked_up P xs ys i x same within here all = subst P (sym here) (All-get_or P ys i x within (subst (All P) (sym same) all))

pub below_next : (k i : ℕ) → k < i + 1 → (k < i) ⊎ (k ≡ i)
below_next zero zero h = inr refl
below_next zero (suc i) h = inl (omega arith)
below_next (suc k) zero h = absurd (omega (arith, h))
below_next (suc k) (suc i) h = elim (below_next k i (omega (arith, h))) [ inl p ↦ inl (omega (arith, p)) | inr q ↦ inr (ap suc q) ]
