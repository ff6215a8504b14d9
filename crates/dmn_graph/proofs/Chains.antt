-- What the lists of reached things say, in chains of things that name one another.
use Rattle.std.proofs.Common.{◌≡◌, ◌⊎◌, inl, inr, ℕ, zero, suc, ◌<◌, ◌≤◌, List, Bool, true, length, arith}
use Rattle.std.specs.Bool.{Decides}
use Rattle.std.specs.List.{flat_map}
use Rattle.dmn_graph.specs.Reach.{has_same, reached, Leads, directly, through}
use Rattle.dmn_graph.specs.Members.{IsIn, IsWithin}
use Rattle.dmn_graph.proofs.Members.{in_right, in_either, in_flat, from_flat, is_in, among}
use Rattle.dmn_graph.proofs.Reaching.{reached_more, reached_enough}

module _ {X : Type 0} (same : X → X → Bool) (decides : (a b : X) → Decides (same a b) (a ≡ b)) (next : X → List X) where
  -- a chain is a number of steps
  pub leads_reached : (a b : X) → Leads same next a b → (m : ℕ) × IsIn b (reached m next (next a))
  leads_reached a b (directly e) = (0, is_in same decides b (next a) e)
  leads_reached a c (through {b = b} e l) =
      let w = leads_reached b c l in
      (suc w.0, in_right c (next a) (reached w.0 next (flat_map next (next a))) (reached_more w.0 next next (λ x y h. h) (next b) (flat_map next (next a)) (named b a (is_in same decides b (next a) e)) c w.1))
    where
      named : (x y : X) → IsIn x (next y) → IsWithin (next x) (flat_map next (next y))
      named x y i z h = in_flat next x z (next y) i h

  -- what is reached is one of them, or one of them leads to it
  pub reached_leads : (m : ℕ) (xs : List X) (b : X) → IsIn b (reached m next xs) → IsIn b xs ⊎ ((s : X) × IsIn s xs × Leads same next s b)
  reached_leads zero xs b h = inl h
  reached_leads (suc m) xs b h =
      elim (in_either b xs (reached m next (flat_map next xs)) h) [
        | inl k ↦ inl k
        | inr k ↦ elim (reached_leads m (flat_map next xs) b k) [
          | inl j ↦ (let w = from_flat next b xs j in inr (w.0, w.1, directly (among same decides b (next w.0) w.2)))
          | inr j ↦ (let w = from_flat next j.0 xs j.1 in inr (w.0, w.1, through (among same decides j.0 (next w.0) w.2) j.2))
        ]
      ]

  -- what the list of reached things has is a chain
  pub leads_from_reached : (m : ℕ) (a b : X) → has_same same (reached m next (next a)) b ≡ true → Leads same next a b
  leads_from_reached m a b e =
      elim (reached_leads m (next a) b (is_in same decides b (reached m next (next a)) e)) [
        | inl i ↦ directly (among same decides b (next a) i)
        | inr w ↦ through (among same decides w.0 (next a) w.1) w.2
      ]

  -- a chain shows in as many steps as there are things that name any
  pub leads_within : (k : ℕ) (ds : List X) → ((x y : X) → IsIn y (next x) → IsIn x ds) → length ds ≤ k
      → (a b : X) → Leads same next a b → has_same same (reached k next (next a)) b ≡ true
  leads_within k ds covers fits a b l =
      let w = leads_reached a b l in
      among same decides b (reached k next (next a)) (reached_enough same decides k ds next covers fits w.0 (next a) b w.1)

  -- where each thing has a higher rank than all that it names, none leads to itself
  pub leads_down : (rank : X → ℕ) → ((n q : X) → has_same same (next n) q ≡ true → rank q < rank n) → (a b : X) → Leads same next a b → rank b < rank a
  leads_down rank falls a b (directly e) = falls a b e
  leads_down rank falls a c (through {b = b} e l) =
      let first : rank b < rank a = falls a b e in let rest : rank c < rank b = leads_down rank falls b c l in omega arith

  pub leads_not_to_itself : (rank : X → ℕ) → ((n q : X) → has_same same (next n) q ≡ true → rank q < rank n) → (n : X) → Leads same next n n → ⊥
  leads_not_to_itself rank falls n l = let d : rank n < rank n = leads_down rank falls n n l in omega arith
