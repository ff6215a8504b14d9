-- What places need: a list for each place, of the places that it needs.
use Rattle.std.specs.Prelude.{◌≡◌, ℕ, suc, ◌<◌, ◌≤◌, List, [], ◌∷◌, map, length, Vec, Bool, true, false, nat_eq, slice_index_or, slice_index, All}
use Rattle.std.specs.declared.alloc.Global.{Global}
use Rattle.dmn_graph.specs.Reach.{has_same, reached, IsInOrder, IsDistinct}

abbrev pub needs_view : List (Vec ℕ Global) → List (List ℕ)
needs_view needs = map (λ v. v.items) needs

-- what a place needs; nothing where there is no such place
abbrev pub needs_of : List (List ℕ) → ℕ → List ℕ
needs_of needs x = slice_index_or needs x []

-- each needed place is one of so many
abbrev pub AreNeedsBelow : ℕ → List (List ℕ) → Type 0
AreNeedsBelow n needs = All (All (λ q. q < n)) needs

-- how many places need anything
abbrev pub count_needing : List (List ℕ) → ℕ
count_needing [] = 0
count_needing ([] ∷ rest) = count_needing rest
count_needing ((q ∷ qs) ∷ rest) = suc (count_needing rest)

-- a place needs itself, directly or through others, in so many steps
abbrev pub needs_itself : ℕ → List (List ℕ) → ℕ → Bool
needs_itself steps needs x = has_same nat_eq (reached steps (needs_of needs) (needs_of needs x)) x

-- some place needs itself, which as many steps as places need anything show
abbrev pub HasCycle : List (List ℕ) → Type 0
HasCycle needs = (x : ℕ) × (x < length needs) × ((steps : ℕ) → count_needing needs ≤ steps → needs_itself steps needs x ≡ true)

-- no place needs itself, in however many steps
abbrev pub HasNoCycle : List (List ℕ) → Type 0
HasNoCycle needs = (steps x : ℕ) → needs_itself steps needs x ≡ false

-- every place stands in it once, and behind all that it needs
pub record IsOrderOf (needs : List (List ℕ)) (order : List ℕ) : Type 0 where
  pub behind : IsInOrder nat_eq (needs_of needs) [] order
  pub once : IsDistinct nat_eq order
  pub every : (x : ℕ) → x < length needs → has_same nat_eq order x ≡ true
  pub only : (x : ℕ) → has_same nat_eq order x ≡ true → x < length needs

-- each place has a higher rank than all that it needs
abbrev pub DoRanksFall : List (List ℕ) → List ℕ → Type 0
DoRanksFall needs ranks = (x q : ℕ) → has_same nat_eq (needs_of needs x) q ≡ true → slice_index ranks q < slice_index ranks x

-- each place of an order has where it stands there as its rank
abbrev pub AreRanks : List ℕ → List ℕ → Type 0
AreRanks order ranks = (k : ℕ) → k < length order → slice_index ranks (slice_index order k) ≡ k
