-- Laws of orders in which each thing stands behind all that it names.
use Rattle.std.proofs.Common.{◌≡◌, ◌⊎◌, inl, inr, ℕ, List, [], ◌∷◌, ◌++◌, refl, sym, subst, Bool, true}
use Rattle.std.specs.Bool.{Decides}
use Rattle.dmn_graph.specs.Reach.{has_same, reached, Each, IsInOrder, IsDistinct}
use Rattle.dmn_graph.specs.Members.{IsIn}
use Rattle.dmn_graph.proofs.Members.{in_either, is_in, among, among_not, not_in}
use Rattle.dmn_graph.proofs.Reaching.{reached_closed}

pub each_from : {X : Type 0} (P : X → Type 0) (xs : List X) → ((x : X) → IsIn x xs → P x) → Each P xs
each_from P [] h = tt
each_from P (x ∷ xs) h = (h x (inl refl), each_from P xs (λ y k. h y (inr k)))

pub each_at : {X : Type 0} (P : X → Type 0) (xs : List X) (x : X) → Each P xs → IsIn x xs → P x
each_at P [] x h k = absurd k
each_at P (y ∷ ys) x h (inl e) = subst P (sym e) h.0
each_at P (y ∷ ys) x h (inr k) = each_at P ys x h.1 k

module _ {X : Type 0} (same : X → X → Bool) (decides : (a b : X) → Decides (same a b) (a ≡ b)) where
  pub distinct_push : (xs : List X) (x : X) → IsDistinct same xs → (IsIn x xs → ⊥) → IsDistinct same (xs ++ x ∷ [])
  distinct_push [] x d n = (refl, tt)
  distinct_push (y ∷ ys) x d n = (
    among_not same decides y (ys ++ x ∷ []) (λ h. elim (in_either y ys (x ∷ []) h) [
      | inl k ↦ not_in same decides y ys d.0 k
      | inr k ↦ elim k [ inl e ↦ n (inl (sym e)) | inr q ↦ q ]
    ]),
    distinct_push ys x d.1 (λ h. n (inr h)),
  )

  pub in_order_push : (next : X → List X) (seen ks : List X) (k : X) → IsInOrder same next seen ks
      → ((q : X) → IsIn q (next k) → IsIn q seen ⊎ IsIn q ks) → IsInOrder same next seen (ks ++ k ∷ [])
  in_order_push next seen [] k o h =
      (each_from (λ q. has_same same seen q ≡ true) (next k) (λ q i. among same decides q seen (elim (h q i) [ inl j ↦ j | inr j ↦ absurd j ])), tt)
  in_order_push next seen (j ∷ js) k o h =
      (o.0, in_order_push next (j ∷ seen) js k o.1 (λ q i. elim (h q i) [ inl a ↦ inl (inr a) | inr a ↦ elim a [ inl e ↦ inl (inl e) | inr b ↦ inr b ] ]))

  -- what stands in such an order, each thing once, does not name itself, directly or through others
  pub in_order_not_itself : (next : X → List X) (seen ks : List X)
      → ((x y : X) → IsIn x seen → IsIn y (next x) → IsIn y seen)
      → ((x : X) → IsIn x ks → IsIn x seen → ⊥) → IsDistinct same ks → IsInOrder same next seen ks
      → (x : X) → IsIn x ks → (m : ℕ) → IsIn x (reached m next (next x)) → ⊥
  in_order_not_itself next seen [] closed apart once o x i m h = i
  in_order_not_itself next seen (k ∷ ks) closed apart once o x (inl e) m h =
      let first : (y : X) → IsIn y (next x) → IsIn y seen
      = λ y q. is_in same decides y seen (each_at (λ z. has_same same seen z ≡ true) (next k) y o.0 (subst (λ w. IsIn y (next w)) e q)) in
      apart x (inl e) (reached_closed next (λ y. IsIn y seen) closed m (next x) first x h)
  in_order_not_itself next seen (k ∷ ks) closed apart once o x (inr i) m h =
      in_order_not_itself next (k ∷ seen) ks
      (λ a b j q. elim j [
        | inl e ↦ inr (is_in same decides b seen (each_at (λ z. has_same same seen z ≡ true) (next k) b o.0 (subst (λ w. IsIn b (next w)) e q)))
        | inr j' ↦ inr (closed a b j' q)
      ])
      (λ y j s. elim s [
        | inl e ↦ not_in same decides k ks once.0 (subst (λ w. IsIn w ks) e j)
        | inr s' ↦ apart y (inr j) s'
      ])
      once.1 o.1 x i m h
