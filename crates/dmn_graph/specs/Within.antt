-- What places lead to within a decision service, where what is given is reached and not gone through.
use Rattle.std.specs.Prelude.{◌≡◌, ℕ, ◌≤◌, List, [], ◌++◌, Bool, nat_eq, not, ◌&&◌, if◌then◌else◌}
use Rattle.std.specs.List.{list_all}
use Rattle.dmn_graph.specs.Reach.{has_same, reached, IsDistinct}
use Rattle.dmn_graph.specs.Needs.{needs_of, count_needing}

-- what a place leads to: what it needs, unless it is given
abbrev pub needs_within : List ℕ → List (List ℕ) → ℕ → List ℕ
needs_within given needs x = if has_same nat_eq given x then [] else needs_of needs x

-- these places, and those that they lead to in up to this many steps
abbrev pub reached_within : ℕ → List ℕ → List (List ℕ) → List ℕ → List ℕ
reached_within steps given needs starts = reached steps (needs_within given needs) starts

-- each of these places, and of those that they lead to in up to this many steps, may be gone through or is given
abbrev pub reaches_only : ℕ → List ℕ → List ℕ → List (List ℕ) → List ℕ → Bool
reaches_only steps through given needs starts = list_all (has_same nat_eq (through ++ given)) (reached_within steps given needs starts)

-- the places that are reached and not given, each once
pub record IsReachOf (given : List ℕ) (needs : List (List ℕ)) (starts found : List ℕ) : Type 0 where
  pub once : IsDistinct nat_eq found
  pub which : (steps q : ℕ) → count_needing needs ≤ steps
      → has_same nat_eq found q ≡ (has_same nat_eq (reached_within steps given needs starts) q && not (has_same nat_eq given q))
