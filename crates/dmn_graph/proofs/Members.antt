-- Laws of standing in a list.
use Rattle.std.proofs.Common.{◌≡◌, ◌⊎◌, inl, inr, ◌≤◌, ◌<◌, List, [], ◌∷◌, ◌++◌, refl, sym, ◌∙◌, ap, subst, arith, Bool, true, false, ◌||◌, length, cond}
use Rattle.std.specs.Bool.{Decides}
use Rattle.std.specs.List.{flat_map}
use Rattle.dmn_graph.specs.Reach.{has_same, IsDistinct}
use Rattle.dmn_graph.specs.Members.{IsIn, IsWithin}

pub in_left : {X : Type 0} (x : X) (xs ys : List X) → IsIn x xs → IsIn x (xs ++ ys)
in_left x [] ys h = absurd h
in_left x (y ∷ xs) ys (inl e) = inl e
in_left x (y ∷ xs) ys (inr h) = inr (in_left x xs ys h)

pub in_right : {X : Type 0} (x : X) (xs ys : List X) → IsIn x ys → IsIn x (xs ++ ys)
in_right x [] ys h = h
in_right x (y ∷ xs) ys h = inr (in_right x xs ys h)

pub in_either : {X : Type 0} (x : X) (xs ys : List X) → IsIn x (xs ++ ys) → IsIn x xs ⊎ IsIn x ys
in_either x [] ys h = inr h
in_either x (y ∷ xs) ys (inl e) = inl (inl e)
in_either x (y ∷ xs) ys (inr h) = elim (in_either x xs ys h) [ inl k ↦ inl (inr k) | inr k ↦ inr k ]

pub in_flat : {X : Type 0} (f : X → List X) (x y : X) (xs : List X) → IsIn x xs → IsIn y (f x) → IsIn y (flat_map f xs)
in_flat f x y [] h k = absurd h
in_flat f x y (z ∷ xs) (inl e) k = in_left y (f z) (flat_map f xs) (subst (λ w. IsIn y (f w)) e k)
in_flat f x y (z ∷ xs) (inr h) k = in_right y (f z) (flat_map f xs) (in_flat f x y xs h k)

pub from_flat : {X : Type 0} (f : X → List X) (y : X) (xs : List X) → IsIn y (flat_map f xs) → (x : X) × IsIn x xs × IsIn y (f x)
from_flat f y [] h = absurd h
from_flat f y (z ∷ xs) h = elim (in_either y (f z) (flat_map f xs) h) [ inl k ↦ (z, inl refl, k) | inr k ↦ (let w = from_flat f y xs k in (w.0, inr w.1, w.2)) ]

-- the list without x
abbrev pub removed : {X : Type 0} → (X → X → Bool) → X → List X → List X
removed same x [] = []
removed same x (y ∷ ys) = cond (same x y) (removed same x ys) (y ∷ removed same x ys)

-- the test of a list, and standing in it
module _ {X : Type 0} (same : X → X → Bool) (decides : (a b : X) → Decides (same a b) (a ≡ b)) where
  pub is_in : (x : X) (xs : List X) → has_same same xs x ≡ true → IsIn x xs
  is_in x [] e = absurd (cc)
  is_in x (y ∷ ys) e = go (same x y) refl e (is_in x ys)
    where
      go : (b : Bool) → same x y ≡ b → (b || has_same same ys x) ≡ true → (has_same same ys x ≡ true → IsIn x ys) → (x ≡ y) ⊎ IsIn x ys
      go true t h rest = inl ((decides x y).0 t)
      go false t h rest = inr (rest h)

  pub among : (x : X) (xs : List X) → IsIn x xs → has_same same xs x ≡ true
  among x [] h = absurd h
  among x (y ∷ ys) (inl e) = ap (λ b. b || has_same same ys x) ((decides x y).1 e)
  among x (y ∷ ys) (inr h) = go (same x y) (among x ys h)
    where
      go : (b : Bool) → has_same same ys x ≡ true → (b || has_same same ys x) ≡ true
      go true t = refl
      go false t = t

  pub among_not : (x : X) (xs : List X) → (IsIn x xs → ⊥) → has_same same xs x ≡ false
  among_not x xs n = go (has_same same xs x) refl
    where
      go : (b : Bool) → has_same same xs x ≡ b → b ≡ false
      go true e = absurd (n (is_in x xs e))
      go false e = refl

  pub not_in : (x : X) (xs : List X) → has_same same xs x ≡ false → IsIn x xs → ⊥
  not_in x xs e h = let t : has_same same xs x ≡ true = among x xs h in cc

  pub equal_or_not : (a b : X) → (a ≡ b) ⊎ (a ≡ b → ⊥)
  equal_or_not a b = go (same a b) refl
    where
      go : (t : Bool) → same a b ≡ t → (a ≡ b) ⊎ (a ≡ b → ⊥)
      go true e = inl ((decides a b).0 e)
      go false e = inr (λ q. let t : same a b ≡ true = (decides a b).1 q in cc)

  pub removed_keeps : (x y : X) (ys : List X) → (x ≡ y → ⊥) → IsIn y ys → IsIn y (removed same x ys)
  removed_keeps x y [] n h = absurd h
  removed_keeps x y (z ∷ zs) n h = go (same x z) refl h (removed_keeps x y zs n)
    where
      go : (b : Bool) → same x z ≡ b → (y ≡ z) ⊎ IsIn y zs → (IsIn y zs → IsIn y (removed same x zs)) → IsIn y (cond b (removed same x zs) (z ∷ removed same x zs))
      go true e (inl q) rest = absurd (n ((decides x z).0 e ∙ sym q))
      go true e (inr k) rest = rest k
      go false e (inl q) rest = inl q
      go false e (inr k) rest = inr (rest k)

  pub removed_within : (x : X) (ys : List X) → length (removed same x ys) ≤ length ys
  removed_within x [] = omega arith
  removed_within x (z ∷ zs) = go (same x z) (removed_within x zs)
    where
      go : (b : Bool) → length (removed same x zs) ≤ length zs → length (cond b (removed same x zs) (z ∷ removed same x zs)) ≤ length (z ∷ zs)
      go true l = omega arith
      go false l = omega arith

  pub removed_shorter : (x : X) (ys : List X) → IsIn x ys → length (removed same x ys) < length ys
  removed_shorter x [] h = absurd h
  removed_shorter x (z ∷ zs) (inl q) = go (same x z) refl (removed_within x zs)
    where
      go : (b : Bool) → same x z ≡ b → length (removed same x zs) ≤ length zs → length (cond b (removed same x zs) (z ∷ removed same x zs)) < length (z ∷ zs)
      go true e l = omega arith
      go false e l = let t : same x z ≡ true = (decides x z).1 q in absurd (cc)
  removed_shorter x (z ∷ zs) (inr h) = go (same x z) (removed_shorter x zs h)
    where
      go : (b : Bool) → length (removed same x zs) < length zs → length (cond b (removed same x zs) (z ∷ removed same x zs)) < length (z ∷ zs)
      go true l = omega arith
      go false l = omega arith

  -- a list of different things that stand in another is no longer
  pub distinct_length : (xs ys : List X) → IsDistinct same xs → IsWithin xs ys → length xs ≤ length ys
  distinct_length [] ys d w = omega arith
  distinct_length (x ∷ xs) ys d w =
      let rest : length xs ≤ length (removed same x ys)
      = distinct_length xs (removed same x ys) d.1 (λ y i. removed_keeps x y ys (λ e. not_in x xs d.0 (subst (λ z. IsIn z xs) (sym e) i)) (w y (inr i))) in
      let less : length (removed same x ys) < length ys = removed_shorter x ys (w x (inl refl)) in
      omega arith
