-- Ranks in an order, and orders by rank.
use Rattle.std.proofs.Common.{◌≡◌, ◌⊎◌, inl, inr, ℕ, zero, suc, ◌+◌, ◌<◌, ◌≤◌, List, [], ◌∷◌, refl, sym, ◌∙◌, ap, subst, Bool, true, false, not, ◌||◌, ◌&&◌, length, arith, get_or, get_or-set_same, get_or-set_other}
use Rattle.std.specs.Prelude.{nat_eq, slice_set}
use Rattle.std.specs.List.{AllByRecursion, IsDistinct}
use Rattle.std.specs.List.Sorted.{IsPermutation, IsNonDecreasingBy}
use Rattle.std.proofs.lemmas.Bool.{cases_lt}
use Rattle.std.proofs.lemmas.Bool.Decides.{Decides-eqb}
use Rattle.std.proofs.lemmas.List.Sorted.{list_any-IsPermutation}
use Rattle.std.proofs.lemmas.Map.Keys.{IsDistinct-IsPermutation}
use Rattle.dmn_graph.specs.Reach as reach
use Rattle.dmn_graph.specs.Reach.{has_same, reached, Each, IsInOrder}
use Rattle.dmn_graph.specs.Needs.{needs_of, count_needing, IsOrderOf, AreRanks, DoRanksFall}
use Rattle.dmn_graph.specs.Within.{needs_within, IsReachOf}
use Rattle.dmn_graph.specs.Members.{IsIn}
use Rattle.dmn_graph.proofs.Members.{is_in, among, not_in, equal_or_not}
use Rattle.dmn_graph.proofs.Reaching.{reached_step}
use Rattle.dmn_graph.proofs.Orders.{each_from, each_at}
use Rattle.dmn_graph.proofs.SearchSteps.{needs_past}
use Rattle.dmn_graph.proofs.WalkSteps.{in_at}
use Rattle.dmn_graph.proofs.ReachSteps.{next_open}

-- ---- one list in another order

apart_of : (x : ℕ) (xs : List ℕ) → has_same nat_eq xs x ≡ false → AllByRecursion (λ y. nat_eq x y ≡ false) xs
apart_of x [] e = tt
apart_of x (y ∷ ys) e = go (nat_eq x y) refl e (apart_of x ys)
  where
    go : (b : Bool) → nat_eq x y ≡ b → (b || has_same nat_eq ys x) ≡ false → (has_same nat_eq ys x ≡ false → AllByRecursion (λ z. nat_eq x z ≡ false) ys)
        → (nat_eq x y ≡ false) × AllByRecursion (λ z. nat_eq x z ≡ false) ys
    go true t h rest = absurd (cc)
    go false t h rest = (t, rest h)

of_apart : (x : ℕ) (xs : List ℕ) → AllByRecursion (λ y. nat_eq x y ≡ false) xs → has_same nat_eq xs x ≡ false
of_apart x [] h = refl
of_apart x (y ∷ ys) h = ap (λ b. b || has_same nat_eq ys x) h.0 ∙ of_apart x ys h.1

to_std : (xs : List ℕ) → reach.IsDistinct nat_eq xs → IsDistinct nat_eq xs
unfolding IsDistinct
to_std [] d = tt
to_std (x ∷ xs) d = (apart_of x xs d.0, to_std xs d.1)

from_std : (xs : List ℕ) → IsDistinct nat_eq xs → reach.IsDistinct nat_eq xs
unfolding IsDistinct
from_std [] d = tt
from_std (x ∷ xs) d = (of_apart x xs d.0, from_std xs d.1)

flips : (x y : ℕ) → nat_eq x y ≡ nat_eq y x
flips x y = elim (equal_or_not nat_eq Decides-eqb x y) [
  | inl e ↦ (Decides-eqb x y).1 e ∙ sym ((Decides-eqb y x).1 (sym e))
  | inr n ↦ no_match x y n ∙ sym (no_match y x (λ e. n (sym e)))
]
  where
    no_match : (a b : ℕ) → (a ≡ b → ⊥) → nat_eq a b ≡ false
    no_match a b n = go (nat_eq a b) refl
      where
        go : (t : Bool) → nat_eq a b ≡ t → t ≡ false
        go true e = absurd (n ((Decides-eqb a b).0 e))
        go false e = refl

pub reach_permuted : (given : List ℕ) (needs : List (List ℕ)) (starts xs ys : List ℕ) → IsPermutation xs ys → IsReachOf given needs starts xs → IsReachOf given needs starts ys
reach_permuted given needs starts xs ys p r = record {
  once = from_std ys (IsDistinct-IsPermutation nat_eq flips xs ys p (to_std xs r.once));
  which = λ steps q l. sym (list_any-IsPermutation (nat_eq q) xs ys p) ∙ r.which steps q l;
}

-- ---- an order by rank

-- what is sorted by rank, and has all that it needs, stands in order
in_order_by_rank : (next : ℕ → List ℕ) (rank : ℕ → ℕ) → ((x q : ℕ) → IsIn q (next x) → rank q < rank x) → (seen ks : List ℕ)
    → ((k q : ℕ) → IsIn k ks → IsIn q (next k) → IsIn q seen ⊎ IsIn q ks) → IsNonDecreasingBy rank ks → IsInOrder nat_eq next seen ks
in_order_by_rank next rank falls seen [] all rises = tt
in_order_by_rank next rank falls seen (k ∷ ks) all rises = (
  each_from (λ q. has_same nat_eq seen q ≡ true) (next k) (λ q i. among nat_eq Decides-eqb q seen (elim (all k q (inl refl) i) [
    | inl s ↦ s
    | inr j ↦ (let low : rank k ≤ rank q = least q j in let f : rank q < rank k = falls k q i in absurd (omega arith))
  ])),
  in_order_by_rank next rank falls (k ∷ seen) ks
      (λ p q i j. elim (all p q (inr i) j) [ inl s ↦ inl (inr s) | inr s ↦ elim s [ inl e ↦ inl (inl e) | inr t ↦ inr t ] ])
      (λ i j d l m. rises (suc i) (suc j) d (omega arith) (omega arith)),
)
  where
    place_of : (q : ℕ) (xs : List ℕ) → IsIn q xs → (j : ℕ) × (j < length xs) × ((d : ℕ) → get_or xs j d ≡ q)
    place_of q [] h = absurd h
    place_of q (x ∷ xs) (inl e) = (0, omega arith, λ d. sym e)
    place_of q (x ∷ xs) (inr h) = let w = place_of q xs h in (suc w.0, let l = w.1 in omega arith, λ d. w.2 d)

    least : (q : ℕ) → IsIn q (k ∷ ks) → rank k ≤ rank q
    least q i = let w = place_of q (k ∷ ks) i in subst (λ z. rank k ≤ rank z) (w.2 0) (rises 0 w.0 0 (omega arith) w.1)

-- what is reached within a service stands in order once it is sorted by rank
pub reach_in_order : (given : List ℕ) (needs : List (List ℕ)) (starts ranks xs : List ℕ) → DoRanksFall needs ranks → IsReachOf given needs starts xs
    → IsNonDecreasingBy (λ q. get_or ranks q 0) xs → IsInOrder nat_eq (needs_of needs) given xs
reach_in_order given needs starts ranks xs falls r rises =
    in_order_by_rank (needs_of needs) (λ q. get_or ranks q 0) (λ x q i. falls x q (among nat_eq Decides-eqb q (needs_of needs x) i)) given xs closed rises
  where
    closed : (k q : ℕ) → IsIn k xs → IsIn q (needs_of needs k) → IsIn q given ⊎ IsIn q xs
    closed k q i j = go (has_same nat_eq given q) refl
      where
        steps : ℕ
        steps = count_needing needs

        parts : (a b : Bool) → (a && b) ≡ true → (a ≡ true) × (b ≡ true)
        parts true b e = (refl, e)
        parts false b e = absurd (cc)

        of_not : (b : Bool) → not b ≡ true → b ≡ false
        of_not true e = cc
        of_not false e = refl

        source : (has_same nat_eq (reached steps (needs_within given needs) starts) k ≡ true) × (has_same nat_eq given k ≡ false)
        source =
            let e = parts (has_same nat_eq (reached steps (needs_within given needs) starts) k) (not (has_same nat_eq given k)) (sym (r.which steps k (omega arith)) ∙ among nat_eq Decides-eqb k xs i) in
            (e.0, of_not (has_same nat_eq given k) e.1)

        further : has_same nat_eq (reached (suc steps) (needs_within given needs) starts) q ≡ true
        further = among nat_eq Decides-eqb q (reached (suc steps) (needs_within given needs) starts)
            (reached_step (needs_within given needs) steps starts k q (is_in nat_eq Decides-eqb k (reached steps (needs_within given needs) starts) source.0)
            (next_open needs [] given starts k q source.1 j))

        go : (b : Bool) → has_same nat_eq given q ≡ b → IsIn q given ⊎ IsIn q xs
        go true e = inl (is_in nat_eq Decides-eqb q given e)
        go false e = inr (is_in nat_eq Decides-eqb q xs (r.which (suc steps) q (omega arith) ∙ (ap (λ b. b && not (has_same nat_eq given q)) further ∙ ap not e)))

-- ---- ranks

-- where a place stands in an order, its needs stand before it
behind_at : (next : ℕ → List ℕ) (seen ks : List ℕ) → IsInOrder nat_eq next seen ks → (j q : ℕ) → j < length ks → IsIn q (next (get_or ks j 0))
    → IsIn q seen ⊎ ((i : ℕ) × (i < j) × (get_or ks i 0 ≡ q))
behind_at next seen [] o j q l h = absurd (omega arith)
behind_at next seen (k ∷ ks) o zero q l h = inl (is_in nat_eq Decides-eqb q seen (each_at (λ z. has_same nat_eq seen z ≡ true) (next k) q o.0 h))
behind_at next seen (k ∷ ks) o (suc j) q l h =
    elim (behind_at next (k ∷ seen) ks o.1 j q (omega arith) h) [
      | inl s ↦ elim s [ inl e ↦ inr (0, omega arith, sym e) | inr t ↦ inl t ]
      | inr w ↦ inr (suc w.0, let a = w.1 in omega arith, w.2)
    ]

place_at : (q : ℕ) (xs : List ℕ) → IsIn q xs → (j : ℕ) × (j < length xs) × (get_or xs j 0 ≡ q)
place_at q [] h = absurd h
place_at q (x ∷ xs) (inl e) = (0, omega arith, sym e)
place_at q (x ∷ xs) (inr h) = let w = place_at q xs h in (suc w.0, let l = w.1 in omega arith, w.2)

-- each of the first so many places of an order has where it stands there as its rank
abbrev pub AreFirstRanks : List ℕ → List ℕ → ℕ → Type 0
AreFirstRanks order ranks upto = (k : ℕ) → k < upto → get_or ranks (get_or order k 0) 0 ≡ k

pub ranks_fall : (needs : List (List ℕ)) (order ranks : List ℕ) → IsOrderOf needs order → AreRanks order ranks → DoRanksFall needs ranks
ranks_fall needs order ranks o are x q h =
    let needed = is_in nat_eq Decides-eqb q (needs_of needs x) h in
    let j = place_at x order (is_in nat_eq Decides-eqb x order (o.every x (needs_past needs x q needed))) in
    elim (behind_at (needs_of needs) [] order o.behind j.0 q j.1 (subst (λ p. IsIn q (needs_of needs p)) (sym j.2) needed)) [
      | inl s ↦ absurd s
      | inr i ↦ (let above : get_or ranks x 0 ≡ j.0 = subst (λ p. get_or ranks p 0 ≡ j.0) j.2 (are j.0 j.1) in
          let below : get_or ranks q 0 ≡ i.0 = subst (λ p. get_or ranks p 0 ≡ i.0) i.2 (are i.0 (let a = i.1 in let b = j.1 in omega arith)) in
          let less = i.1 in omega arith)
    ]

apart_at : (xs : List ℕ) (i j : ℕ) → reach.IsDistinct nat_eq xs → i < j → j < length xs → get_or xs i 0 ≡ get_or xs j 0 → ⊥
apart_at [] i j d l m e = absurd (omega arith)
apart_at (x ∷ xs) i zero d l m e = absurd (omega arith)
apart_at (x ∷ xs) zero (suc j) d l m e = not_in nat_eq Decides-eqb x xs d.0 (subst (λ y. IsIn y xs) (sym e) (in_at xs j 0 (omega arith)))
apart_at (x ∷ xs) (suc i) (suc j) d l m e = apart_at xs i j d.1 (omega arith) (omega arith) e

pub rank_within : (needs : List (List ℕ)) (order ranks : List ℕ) (i : ℕ) → IsOrderOf needs order → length ranks ≡ length needs → i < length order → get_or order i 0 < length ranks
rank_within needs order ranks i o sized l = let b = o.only (get_or order i 0) (among nat_eq Decides-eqb (get_or order i 0) order (in_at order i 0 l)) in omega arith

-- one more rank is written
pub ranks_more : (needs : List (List ℕ)) (order ranks : List ℕ) (i : ℕ) → IsOrderOf needs order → length ranks ≡ length needs → i < length order
    → AreFirstRanks order ranks i → AreFirstRanks order (slice_set ranks (get_or order i 0) i) (i + 1)
ranks_more needs order ranks i o sized l are k m = elim (cases_lt k i) [
  | inl b ↦ get_or-set_other ranks (get_or order i 0) (get_or order k 0) i 0 (apart_at order k i o.once b l) ∙ are k b
  | inr g ↦ (let e : k ≡ i = omega arith in
      subst (λ z. get_or (slice_set ranks (get_or order i 0) i) (get_or order z 0) 0 ≡ z) (sym e) (get_or-set_same ranks (get_or order i 0) i 0 (rank_within needs order ranks i o sized l)))
]
