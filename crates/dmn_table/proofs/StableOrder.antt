-- A list put in order one element after another is the one that a stable sort gives.
use Rattle.std.proofs.Common.{add-one, ◌≡◌, suc, List, [], ◌∷◌, refl, sym, ◌∙◌, ap, arith, Bool, true, false, cond, not, ◌&&◌}
use Rattle.std.specs.Prelude.{⊤, if◌then◌else◌}
use Rattle.std.specs.List.{filter}
use Rattle.std.specs.Cmp.{IsStrictWeakOrder}
use native.Mathlib.Numerals.{unary_clauses}
use Rattle.std.specs.List.Sorted.{IsSortedBy, IsStableBy, ties}

module _ {X : Type 0} (before : X → X → Bool) where
  -- an element, before the first that isn't before it
  abbrev pub put : X → List X → List X
  put x [] = x ∷ []
  put x (y ∷ ys) = if before y x then y ∷ put x ys else x ∷ y ∷ ys

  abbrev pub in_order : List X → List X
  in_order [] = []
  in_order (x ∷ xs) = put x (in_order xs)

  -- no element of the list is before x
  abbrev pub NoneBefore : X → List X → Type 0
  NoneBefore x [] = ⊤
  NoneBefore x (y ∷ ys) = (before y x ≡ false) × NoneBefore x ys

  -- no element is before an earlier one
  abbrev pub InOrder : List X → Type 0
  InOrder [] = ⊤
  InOrder (x ∷ xs) = NoneBefore x xs × InOrder xs

module _ {X : Type 0} (before : X → X → Bool) (order : IsStrictWeakOrder before) where
  none_before_put : (x y : X) (ys : List X) → before y x ≡ false → NoneBefore before x ys → NoneBefore before x (put before y ys)
  none_before_put x y [] e h = (e, tt)
  none_before_put x y (z ∷ zs) e h = go (before z y) (none_before_put x y zs e h.1)
    where
      go : (b : Bool) → NoneBefore before x (put before y zs) → NoneBefore before x (cond b (z ∷ put before y zs) (y ∷ z ∷ zs))
      go true rest = (h.0, rest)
      go false rest = (e, h)

  none_before_later : (x y : X) (ys : List X) → before y x ≡ false → NoneBefore before y ys → NoneBefore before x ys
  none_before_later x y [] e h = tt
  none_before_later x y (z ∷ zs) e h = (order.chain z y x h.0 e, none_before_later x y zs e h.1)

  put_keeps : (x : X) (xs : List X) → InOrder before xs → InOrder before (put before x xs)
  put_keeps x [] h = (tt, tt)
  put_keeps x (y ∷ ys) h = go (before y x) refl (put_keeps x ys h.1)
    where
      go : (b : Bool) → before y x ≡ b → InOrder before (put before x ys) → InOrder before (cond b (y ∷ put before x ys) (x ∷ y ∷ ys))
      go true e rest = (none_before_put y x ys (order.one_way y x e) h.0, rest)
      go false e rest = ((e, none_before_later x y ys e h.0), h)

  pub in_order_is : (xs : List X) → InOrder before (in_order before xs)
  in_order_is [] = tt
  in_order_is (x ∷ xs) = put_keeps x (in_order before xs) (in_order_is xs)

  -- ---- ties

  and_true : (a b : Bool) → (a && b) ≡ true → (a ≡ true) × (b ≡ true)
  and_true true true e = (refl, refl)
  and_true true false e = cc
  and_true false b e = cc

  not_true : (b : Bool) → not b ≡ true → b ≡ false
  not_true true e = cc
  not_true false e = refl

  tied : (x y : X) → ties before x y ≡ true → (before x y ≡ false) × (before y x ≡ false)
  tied x y e =
      let parts = and_true (not (before x y)) (not (before y x)) e in
      (not_true (before x y) parts.0, not_true (before y x) parts.1)

  ties_from : (x y : X) → before x y ≡ false → before y x ≡ false → ties before x y ≡ true
  ties_from x y e f = rw (e, f) refl

  irreflexive : (x : X) → before x x ≡ false
  irreflexive x = go (before x x) refl
    where
      go : (b : Bool) → before x x ≡ b → before x x ≡ false
      go true e = order.one_way x x e
      go false e = e

  ties_itself : (x : X) → ties before x x ≡ true
  ties_itself x = ties_from x x (irreflexive x) (irreflexive x)

  -- of two elements of which one is before the other, one at most ties with z
  not_both : (x y z : X) → before y x ≡ true → ties before z y ≡ true → ties before z x ≡ true → ⊥
  not_both x y z e s t =
      let no : before y x ≡ false = order.chain y z x (tied z y s).1 (tied z x t).0 in
      cc

  kept_turned : (p : X → Bool) (x y : X) (zs : List X) → (p y ≡ true → p x ≡ true → ⊥) → filter p (y ∷ x ∷ zs) ≡ filter p (x ∷ y ∷ zs)
  kept_turned p x y zs h = go (p x) refl (p y) refl
    where
      go : (a : Bool) → p x ≡ a → (b : Bool) → p y ≡ b → cond b (y ∷ cond a (x ∷ filter p zs) (filter p zs)) (cond a (x ∷ filter p zs) (filter p zs)) ≡ cond a (x ∷ cond b (y ∷ filter p zs) (filter p zs)) (cond b (y ∷ filter p zs) (filter p zs))
      go true e true f = absurd (h f e)
      go true e false f = refl
      go false e true f = refl
      go false e false f = refl

  kept_below : (p : X → Bool) (y : X) (us vs : List X) → filter p us ≡ filter p vs → filter p (y ∷ us) ≡ filter p (y ∷ vs)
  kept_below p y us vs e = ap (λ ws. cond (p y) (y ∷ ws) ws) e

  put_is_stable : (z x : X) (xs : List X) → filter (ties before z) (put before x xs) ≡ filter (ties before z) (x ∷ xs)
  put_is_stable z x [] = refl
  put_is_stable z x (y ∷ ys) = go (before y x) refl (put_is_stable z x ys)
    where
      go : (b : Bool) → before y x ≡ b → filter (ties before z) (put before x ys) ≡ filter (ties before z) (x ∷ ys)
          → filter (ties before z) (cond b (y ∷ put before x ys) (x ∷ y ∷ ys)) ≡ filter (ties before z) (x ∷ y ∷ ys)
      go true e rest = kept_below (ties before z) y (put before x ys) (x ∷ ys) rest ∙ kept_turned (ties before z) x y ys (not_both x y z e)
      go false e rest = refl

  pub in_order_is_stable : (z : X) (xs : List X) → filter (ties before z) (in_order before xs) ≡ filter (ties before z) xs
  in_order_is_stable z [] = refl
  in_order_is_stable z (x ∷ xs) =
      put_is_stable z x (in_order before xs) ∙ kept_below (ties before z) x (in_order before xs) xs (in_order_is_stable z xs)

  -- ---- one list alone is in order and has the ties of another in their order

  -- where some element of an ordered list ties with y, y is not before its first
  not_before_first : (x y : X) (ws zs : List X) (v : X) → NoneBefore before x ws → filter (ties before y) ws ≡ v ∷ zs → before y x ≡ false
  not_before_first x y [] zs v h e = cc
  not_before_first x y (w ∷ ws) zs v h e = go (ties before y w) refl (not_before_first x y ws zs v h.1) e
    where
      go : (b : Bool) → ties before y w ≡ b → (filter (ties before y) ws ≡ v ∷ zs → before y x ≡ false)
          → cond b (w ∷ filter (ties before y) ws) (filter (ties before y) ws) ≡ v ∷ zs → before y x ≡ false
      go true t later f = order.chain y w x (tied y w t).0 h.0
      go false t later f = later f

  kept_first : (p : X → Bool) (x : X) (xs : List X) → p x ≡ true → filter p (x ∷ xs) ≡ x ∷ filter p xs
  kept_first p x xs e = ap (λ b. cond b (x ∷ filter p xs) (filter p xs)) e

  kept_rest : (p : X → Bool) (x y : X) (xs ys : List X) → x ≡ y → filter p (x ∷ xs) ≡ filter p (y ∷ ys) → filter p xs ≡ filter p ys
  kept_rest p x y xs ys e f = go (p x) refl (f ∙ ap (λ z. filter p (z ∷ ys)) (sym e))
    where
      go : (b : Bool) → p x ≡ b → cond (p x) (x ∷ filter p xs) (filter p xs) ≡ cond (p x) (x ∷ filter p ys) (filter p ys) → filter p xs ≡ filter p ys
      go true t g = let h : x ∷ filter p xs ≡ x ∷ filter p ys = rw t at g in cc
      go false t g = rw t at g

  SameTies : List X → List X → Type 0
  SameTies xs ys = (z : X) → filter (ties before z) xs ≡ filter (ties before z) ys

  pub only_order : (xs ys : List X) → InOrder before xs → InOrder before ys → ((z : X) → filter (ties before z) xs ≡ filter (ties before z) ys) → xs ≡ ys
  only_order [] [] h k same = refl
  only_order [] (y ∷ ys) h k same = let e : [] ≡ y ∷ filter (ties before y) ys = same y ∙ kept_first (ties before y) y ys (ties_itself y) in cc
  only_order (x ∷ xs) [] h k same = let e : [] ≡ x ∷ filter (ties before x) xs = sym (same x) ∙ kept_first (ties before x) x xs (ties_itself x) in cc
  only_order (x ∷ xs) (y ∷ ys) h k same =
      let low : before y x ≡ false = not_before_first x y (x ∷ xs) (filter (ties before y) ys) y (irreflexive x, h.0) (same y ∙ kept_first (ties before y) y ys (ties_itself y)) in
      let high : before x y ≡ false = not_before_first y x (y ∷ ys) (filter (ties before x) xs) x (irreflexive y, k.0) (sym (same x) ∙ kept_first (ties before x) x xs (ties_itself x)) in
      let both : x ∷ filter (ties before x) xs ≡ y ∷ filter (ties before x) ys =
      sym (kept_first (ties before x) x xs (ties_itself x)) ∙ same x ∙ kept_first (ties before x) y ys (ties_from x y high low) in
      let first : x ≡ y = cc in
      let rest : xs ≡ ys = only_order xs ys h.1 k.1 (λ z. kept_rest (ties before z) x y xs ys first (same z)) in
      cc

  -- ---- from the clauses of a sort

  in_order_from_sorted : (xs : List X) → IsSortedBy before xs → InOrder before xs
  in_order_from_sorted [] s = tt
  in_order_from_sorted (x ∷ []) s = (tt, tt)
  in_order_from_sorted (x ∷ y ∷ zs) s =
      let rest : InOrder before (y ∷ zs) = in_order_from_sorted (y ∷ zs) (λ k d l h. rw add-one (simp unary_clauses at (s (suc k) d (omega arith) (omega arith)))) in
      let next : before y x ≡ false = s 0 x (omega arith) (omega arith) in
      ((next, none_before_later x y zs next rest.0), rest)

  -- what a stable sort makes of a list
  pub in_order_from_sort : (xs ys : List X) → IsSortedBy before ys → IsStableBy before xs ys → ys ≡ in_order before xs
  in_order_from_sort xs ys sorted stable =
      only_order ys (in_order before xs) (in_order_from_sorted ys sorted) (in_order_is xs) (λ z. stable z ∙ sym (in_order_is_stable z xs))
