-- As many steps as there are things that name anything reach whatever is reached in any number of steps.
use Rattle.std.proofs.Common.{◌≡◌, ◌⊎◌, inl, inr, ℕ, zero, suc, ◌≤◌, ◌<◌, List, [], ◌∷◌, ◌++◌, refl, sym, subst, arith, Bool, true, false, length, cond}
use Rattle.std.specs.Bool.{Decides}
use Rattle.std.specs.List.{flat_map}
use Rattle.dmn_graph.specs.Reach.{reached}
use Rattle.dmn_graph.specs.Members.{IsIn, IsWithin}
use Rattle.dmn_graph.proofs.Members.{in_left, in_right, in_either, in_flat, from_flat, removed, removed_keeps, removed_shorter}

flat_more : {X : Type 0} (f g : X → List X) → ((x : X) → IsWithin (f x) (g x)) → (xs ys : List X) → IsWithin xs ys → IsWithin (flat_map f xs) (flat_map g ys)
flat_more f g more xs ys within y h =
    let w = from_flat f y xs h in in_flat g w.0 y ys (within w.0 w.1) (more w.0 y w.2)

pub reached_more : {X : Type 0} (m : ℕ) (f g : X → List X) → ((x : X) → IsWithin (f x) (g x)) → (xs ys : List X) → IsWithin xs ys → IsWithin (reached m f xs) (reached m g ys)
reached_more zero f g more xs ys within x h = within x h
reached_more (suc m) f g more xs ys within x h =
    elim (in_either x xs (reached m f (flat_map f xs)) h) [
      | inl k ↦ in_left x ys (reached m g (flat_map g ys)) (within x k)
      | inr k ↦ in_right x ys (reached m g (flat_map g ys)) (reached_more m f g more (flat_map f xs) (flat_map g ys) (flat_more f g more xs ys within) x k)
    ]

module _ {X : Type 0} (next : X → List X) where
  itself : (x : X) → IsWithin (next x) (next x)
  itself x y h = h

  pub reached_from : (m : ℕ) (xs : List X) → IsWithin xs (reached m next xs)
  reached_from zero xs x h = h
  reached_from (suc m) xs x h = in_left x xs (reached m next (flat_map next xs)) h

  pub reached_later : (m k : ℕ) → m ≤ k → (xs : List X) → IsWithin (reached m next xs) (reached k next xs)
  reached_later zero k l xs x h = reached_from k xs x h
  reached_later (suc m) zero l xs x h = absurd (omega arith)
  reached_later (suc m) (suc k) l xs x h =
      elim (in_either x xs (reached m next (flat_map next xs)) h) [
        | inl j ↦ in_left x xs (reached k next (flat_map next xs)) j
        | inr j ↦ in_right x xs (reached k next (flat_map next xs)) (reached_later m k (omega arith) (flat_map next xs) x j)
      ]

  -- what is reached is reached from one of them
  pub reached_from_one : (m : ℕ) (xs : List X) (x : X) → IsIn x (reached m next xs) → (s : X) × IsIn s xs × IsIn x (reached m next (s ∷ []))
  reached_from_one zero xs x h = (x, h, inl refl)
  reached_from_one (suc m) xs x h =
      elim (in_either x xs (reached m next (flat_map next xs)) h) [
        | inl k ↦ (x, k, inl refl)
        | inr k ↦ (let w = reached_from_one m (flat_map next xs) x k in
            let v = from_flat next w.0 xs w.1 in
            (v.0, v.1, in_right x (v.0 ∷ []) (reached m next (next v.0 ++ [])) (reached_more m next next itself (w.0 ∷ []) (next v.0 ++ []) (one w.0 (next v.0) v.2) x w.2)))
      ]
    where
      one : (s : X) (ys : List X) → IsIn s ys → IsWithin (s ∷ []) (ys ++ [])
      one s ys h y (inl e) = in_left y ys [] (subst (λ w. IsIn w ys) (sym e) h)
      one s ys h y (inr k) = absurd k

  -- one step more
  pub reached_step : (m : ℕ) (xs : List X) (x y : X) → IsIn x (reached m next xs) → IsIn y (next x) → IsIn y (reached (suc m) next xs)
  reached_step zero xs x y h k = in_right y xs (flat_map next xs) (in_flat next x y xs h k)
  reached_step (suc m) xs x y h k =
      elim (in_either x xs (reached m next (flat_map next xs)) h) [
        | inl j ↦ in_right y xs (reached (suc m) next (flat_map next xs)) (reached_from (suc m) (flat_map next xs) y (in_flat next x y xs j k))
        | inr j ↦ in_right y xs (reached (suc m) next (flat_map next xs)) (reached_step m (flat_map next xs) x y j k)
      ]

  -- a list that has all that its members name has all that they lead to
  pub reached_closed : (P : X → Type 0) → ((x y : X) → P x → IsIn y (next x) → P y) → (m : ℕ) (xs : List X) → ((x : X) → IsIn x xs → P x) → (x : X) → IsIn x (reached m next xs) → P x
  reached_closed P closed zero xs all x h = all x h
  reached_closed P closed (suc m) xs all x h =
      elim (in_either x xs (reached m next (flat_map next xs)) h) [
        | inl k ↦ all x k
        | inr k ↦ reached_closed P closed m (flat_map next xs) (λ y j. let w = from_flat next y xs j in closed w.0 y (all w.0 w.1) w.2) x k
      ]

module _ {X : Type 0} (same : X → X → Bool) (decides : (a b : X) → Decides (same a b) (a ≡ b)) where
  -- the same, but that s names nothing
  abbrev without : (X → List X) → X → X → List X
  without next s x = cond (same s x) [] (next x)

  without_less : (next : X → List X) (s x : X) → IsWithin (without next s x) (next x)
  without_less next s x y h = go (same s x) h
    where
      go : (b : Bool) → IsIn y (cond b [] (next x)) → IsIn y (next x)
      go true k = absurd k
      go false k = k

  without_other : (next : X → List X) (s x y : X) → IsIn y (without next s x) → s ≡ x → ⊥
  without_other next s x y h e = go (same s x) refl h
    where
      go : (b : Bool) → same s x ≡ b → IsIn y (cond b [] (next x)) → ⊥
      go true t k = k
      go false t k = let u : same s x ≡ true = (decides s x).1 e in absurd (cc)

  without_or : (next : X → List X) (s x y : X) → IsIn y (next x) → IsIn y (without next s x) ⊎ IsIn y (next s)
  without_or next s x y h = go (same s x) refl
    where
      go : (b : Bool) → same s x ≡ b → IsIn y (cond b [] (next x)) ⊎ IsIn y (next s)
      go true t = inr (subst (λ w. IsIn y (next w)) (sym ((decides s x).0 t)) h)
      go false t = inl h

  -- what is reached is reached without going through s, or from what s names without going through s again
  split : (next : X → List X) (s : X) (m : ℕ) (xs : List X) (x : X) → IsIn x (reached m next xs)
      → IsIn x (reached m (without next s) xs) ⊎ IsIn x (reached m (without next s) (next s))
  split next s zero xs x h = inl h
  split next s (suc m) xs x h =
      elim (in_either x xs (reached m next (flat_map next xs)) h) [
        | inl k ↦ inl (in_left x xs (reached m (without next s) (flat_map (without next s) xs)) k)
        | inr k ↦ further (split next s m (flat_map next xs) x k)
      ]
    where
      more : IsIn x (reached m (without next s) (next s)) → IsIn x (reached (suc m) (without next s) xs) ⊎ IsIn x (reached (suc m) (without next s) (next s))
      more j = inr (reached_later (without next s) m (suc m) (omega arith) (next s) x j)

      one : (t : X) (ys : List X) → IsIn t ys → IsIn x (reached m (without next s) (t ∷ [])) → IsIn x (reached m (without next s) ys)
      one t ys h j = reached_more m (without next s) (without next s) (λ z y q. q) (t ∷ []) ys (λ y q. elim q [ inl e ↦ subst (λ w. IsIn w ys) (sym e) h | inr q ↦ absurd q ]) x j

      further : IsIn x (reached m (without next s) (flat_map next xs)) ⊎ IsIn x (reached m (without next s) (next s)) → IsIn x (reached (suc m) (without next s) xs) ⊎ IsIn x (reached (suc m) (without next s) (next s))
      further (inr j) = more j
      further (inl j) =
          let w = reached_from_one (without next s) m (flat_map next xs) x j in
          let v = from_flat next w.0 xs w.1 in
          elim (without_or next s v.0 w.0 v.2) [
            | inl q ↦ inl (in_right x xs (reached m (without next s) (flat_map (without next s) xs)) (one w.0 (flat_map (without next s) xs) (in_flat (without next s) v.0 w.0 xs v.1 q) w.2))
            | inr q ↦ more (one w.0 (next s) q w.2)
          ]

  -- nothing is reached from s where it names nothing
  stays : (next : X → List X) (s : X) (m : ℕ) (x : X) → IsIn x (reached m (without next s) (s ∷ [])) → x ≡ s
  stays next s m x h =
      reached_closed (without next s) (λ y. y ≡ s) (λ a b e k. absurd (without_other next s a b k (sym e))) m (s ∷ []) (λ y k. elim k [ inl e ↦ e | inr q ↦ absurd q ]) x h

  fewer : (next : X → List X) (ds : List X) → ((x y : X) → IsIn y (next x) → IsIn x ds)
      → (s y z : X) → IsIn z (without next s y) → IsIn y (removed same s ds)
  fewer next ds covers s y z q = removed_keeps same decides s y ds (without_other next s y z q) (covers y z (without_less next s y z q))

  -- so many steps as there are things that name any reach all that is ever reached
  pub reached_enough : (k : ℕ) (ds : List X) (next : X → List X) → ((x y : X) → IsIn y (next x) → IsIn x ds) → length ds ≤ k
      → (m : ℕ) (xs : List X) (x : X) → IsIn x (reached m next xs) → IsIn x (reached k next xs)
  reached_enough zero ds next covers fits m xs x h =
      let w = reached_from_one next m xs x h in
      elim (split next w.0 m (w.0 ∷ []) x w.2) [
        | inl j ↦ subst (λ y. IsIn y xs) (sym (stays next w.0 m x j)) w.1
        | inr j ↦ (let v = reached_from_one (without next w.0) m (next w.0) x j in
            let l : length (removed same w.0 ds) < length ds = removed_shorter same decides w.0 ds (covers w.0 v.0 v.1) in
            absurd (omega arith))
      ]
  reached_enough (suc k) ds next covers fits m xs x h =
      let w = reached_from_one next m xs x h in
      elim (split next w.0 m (w.0 ∷ []) x w.2) [
        | inl j ↦ reached_from next (suc k) xs x (subst (λ y. IsIn y xs) (sym (stays next w.0 m x j)) w.1)
        | inr j ↦ (let v = reached_from_one (without next w.0) m (next w.0) x j in
            let l : length (removed same w.0 ds) < length ds = removed_shorter same decides w.0 ds (covers w.0 v.0 v.1) in
            let rest = reached_enough k (removed same w.0 ds) (without next w.0) (fewer next ds covers w.0) (omega arith) m (next w.0) x j in
            in_right x xs (reached k next (flat_map next xs)) (reached_more k (without next w.0) next (without_less next w.0) (next w.0) (flat_map next xs) (λ y q. in_flat next w.0 y xs w.1 q) x rest))
      ]
