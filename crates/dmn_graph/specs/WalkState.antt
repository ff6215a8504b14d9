-- Internal: what a walk within a decision service keeps.
use Rattle.std.specs.Prelude.{◌≡◌, ◌⊎◌, ℕ, ◌≤◌, ◌<◌, length, take, List, [], ◌++◌, Bool, true, false, nat_eq}
use Rattle.std.specs.Ordering.{nat_cmp}
use Rattle.std.specs.BTreeSet.{BTreeSet, contains}
use Rattle.dmn_graph.specs.declared.walk.Walk.{Walk}
use Rattle.dmn_graph.specs.Reach.{has_same, reached, IsDistinct}
use Rattle.dmn_graph.specs.Needs.{needs_of}
use Rattle.dmn_graph.specs.Within.{needs_within}
use Rattle.dmn_graph.specs.Members.{IsIn}

abbrev pub has_place : BTreeSet ℕ → ℕ → Bool
has_place s q = contains nat_cmp s q

pub record IsWalk (w : Walk) : Type 0 where
  pub seen_found : (q : ℕ) → has_place w.seen q ≡ has_same nat_eq w.found.items q
  pub inside : (q : ℕ) → IsIn q w.found.items → (has_place w.through q ≡ true) × (has_place w.given q ≡ false)
  pub once : IsDistinct nat_eq w.found.items

-- these places were met: what was found besides stands among them, and each of them is given or found
pub record HasMet (old : Walk) (qs : List ℕ) (new : Walk) : Type 0 where
  pub state : IsWalk new
  pub through : new.through ≡ old.through
  pub given : new.given ≡ old.given
  pub more : List ℕ
  pub found : new.found.items ≡ old.found.items ++ more
  pub from : (q : ℕ) → IsIn q more → IsIn q qs
  pub met : (q : ℕ) → IsIn q qs → (has_place old.given q ≡ true) ⊎ IsIn q new.found.items

-- one of these places may neither be gone through nor is given
abbrev pub IsUnlisted : Walk → List ℕ → Type 0
IsUnlisted w qs = (q : ℕ) × IsIn q qs × (has_place w.given q ≡ false) × (has_place w.through q ≡ false)

-- nothing was found yet
pub record IsNewWalk (through given : List ℕ) (w : Walk) : Type 0 where
  pub state : IsWalk w
  pub none : w.found.items ≡ []
  pub throughs : (q : ℕ) → has_place w.through q ≡ has_same nat_eq through q
  pub givens : (q : ℕ) → has_place w.given q ≡ has_same nat_eq given q

-- the starts were met, and all that the first so many of the found places need
pub record IsReached (needs : List (List ℕ)) (through given starts : List ℕ) (w : Walk) (next : ℕ) : Type 0 where
  pub state : IsWalk w
  pub throughs : (q : ℕ) → has_place w.through q ≡ has_same nat_eq through q
  pub givens : (q : ℕ) → has_place w.given q ≡ has_same nat_eq given q
  pub begun : (q : ℕ) → IsIn q starts → (has_same nat_eq given q ≡ true) ⊎ IsIn q w.found.items
  pub passed : (q y : ℕ) → IsIn q (take next w.found.items) → IsIn y (needs_of needs q) → (has_same nat_eq given y ≡ true) ⊎ IsIn y w.found.items
  pub source : (q : ℕ) → IsIn q w.found.items → (m : ℕ) × IsIn q (reached m (needs_within given needs) starts)
  pub places : (q : ℕ) → IsIn q w.found.items → q < length needs
  pub sofar : next ≤ length w.found.items
  pub bounded : length w.found.items ≤ length through
