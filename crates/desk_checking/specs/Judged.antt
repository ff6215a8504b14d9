-- Internal, cited by no public contract: overlaps that are judged one after another.
use Rattle.std.specs.Prelude.{ℕ, List, [], ◌∷◌, ◌++◌, Bool, true, false, Option, None, Some}
use Rattle.std.specs.Option.{option_or}

-- the places with this one, where it has this answer
abbrev pub with_place : List ℕ → ℕ → Option Bool → List ℕ
with_place places k (Some true) = places ++ k ∷ []
with_place places k (Some false) = places
with_place places k None = places

-- the first open place, where this one has this answer
abbrev pub with_open : Option ℕ → ℕ → Option Bool → Option ℕ
with_open first k (Some b) = first
with_open first k None = option_or first (Some k)
