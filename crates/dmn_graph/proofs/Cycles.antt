-- A place that leads to itself in any number of steps does so in as many as there are places that need anything.
use Rattle.std.proofs.Common.{◌≡◌, inl, inr, ℕ, zero, suc, ◌<◌, ◌≤◌, List, [], ◌∷◌, refl, ◌∙◌, ap, length, map, arith, ◌+◌}
use Rattle.std.specs.Prelude.{nat_eq}
use Rattle.std.proofs.lemmas.Bool.Decides.{Decides-eqb}
use Rattle.std.proofs.lemmas.List.{length-map}
use Rattle.dmn_graph.specs.Reach.{reached, Leads}
use Rattle.dmn_graph.specs.Needs.{needs_of, count_needing, HasCycle, HasNoCycle}
use Rattle.dmn_graph.specs.Members.{IsIn}
use Rattle.dmn_graph.proofs.Members.{among, not_in}
use Rattle.dmn_graph.proofs.Chains.{leads_reached, leads_from_reached}
use Rattle.dmn_graph.proofs.Reaching.{reached_enough}

-- the places that need anything
abbrev pub needing : List (List ℕ) → List ℕ
needing [] = []
needing ([] ∷ rest) = map suc (needing rest)
needing ((q ∷ qs) ∷ rest) = 0 ∷ map suc (needing rest)

pub needing_length : (needs : List (List ℕ)) → length (needing needs) ≡ count_needing needs
needing_length [] = refl
needing_length ([] ∷ rest) = length-map (needing rest) suc ∙ needing_length rest
needing_length ((q ∷ qs) ∷ rest) = ap suc (length-map (needing rest) suc ∙ needing_length rest)

in_map : (x : ℕ) (xs : List ℕ) → IsIn x xs → IsIn (suc x) (map suc xs)
in_map x [] h = absurd h
in_map x (y ∷ ys) (inl e) = inl (ap suc e)
in_map x (y ∷ ys) (inr h) = inr (in_map x ys h)

pub needing_covers : (needs : List (List ℕ)) (x y : ℕ) → IsIn y (needs_of needs x) → IsIn x (needing needs)
needing_covers [] x y h = absurd h
needing_covers ([] ∷ rest) zero y h = absurd h
needing_covers ((q ∷ qs) ∷ rest) zero y h = inl refl
needing_covers ([] ∷ rest) (suc x) y h = in_map x (needing rest) (needing_covers rest x y h)
needing_covers ((q ∷ qs) ∷ rest) (suc x) y h = inr (in_map x (needing rest) (needing_covers rest x y h))

pub cycle_found : (needs : List (List ℕ)) (x m : ℕ) → x < length needs → IsIn x (reached m (needs_of needs) (needs_of needs x)) → HasCycle needs
cycle_found needs x m l h = (
  x,
  l,
  λ steps enough. among nat_eq Decides-eqb x (reached steps (needs_of needs) (needs_of needs x))
      (reached_enough nat_eq Decides-eqb steps (needing needs) (needs_of needs) (needing_covers needs) (let e = needing_length needs in omega arith) m (needs_of needs x) x h),
)

-- a cycle is a place that leads to itself
pub cycle_leads : (needs : List (List ℕ)) → HasCycle needs → (x : ℕ) × Leads nat_eq (needs_of needs) x x
cycle_leads needs c = (c.0, leads_from_reached nat_eq Decides-eqb (needs_of needs) (count_needing needs) c.0 c.0 (c.2 (count_needing needs) (omega arith)))

pub no_cycle_leads : (needs : List (List ℕ)) → HasNoCycle needs → (x : ℕ) → Leads nat_eq (needs_of needs) x x → ⊥
no_cycle_leads needs c x l =
    let w = leads_reached nat_eq Decides-eqb (needs_of needs) x x l in
    not_in nat_eq Decides-eqb x (reached w.0 (needs_of needs) (needs_of needs x)) (c w.0 x) w.1

-- where the first so many places need nothing, as input data do, at most the others need anything
pub count_needing_bound : (needs : List (List ℕ)) (inputs : ℕ) → inputs ≤ length needs → ((x : ℕ) → x < inputs → needs_of needs x ≡ []) → count_needing needs + inputs ≤ length needs
count_needing_bound [] inputs l none = omega arith
count_needing_bound ([] ∷ rest) zero l none = let r = count_needing_bound rest zero (omega arith) (λ x b. absurd (omega arith)) in omega arith
count_needing_bound ((q ∷ qs) ∷ rest) zero l none = let r = count_needing_bound rest zero (omega arith) (λ x b. absurd (omega arith)) in omega arith
count_needing_bound ([] ∷ rest) (suc inputs) l none = let r = count_needing_bound rest inputs (omega arith) (λ x b. none (suc x) (omega arith)) in omega arith
count_needing_bound ((q ∷ qs) ∷ rest) (suc inputs) l none = let e : (q ∷ qs) ≡ [] = none 0 (omega arith) in absurd (cc)
