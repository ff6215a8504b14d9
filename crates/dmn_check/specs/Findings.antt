-- What is wrong, and where: lists of findings, in the order in which the parts stand in the model.
use Rattle.std.specs.Prelude.{ℕ, ◌+◌, List, [], ◌∷◌, ◌++◌, map, Bool, if◌then◌else◌}
use Rattle.dmn_check.specs.declared.place.Step.{Step}
use Rattle.dmn_check.specs.declared.place.Step.TheVariants.{Index}
use Rattle.dmn_check.specs.declared.finding.Mistake.{Mistake}

-- the steps from a part of the model to a place in it
abbrev pub Place : Type 0
Place = List Step

pub record Finding : Type 0 where
  pub place : Place
  pub mistake : Mistake

-- a finding of a part, as one of what leads to the part by a step
abbrev pub moved : Step → Finding → Finding
moved s f = record { place = s ∷ f.place; mistake = f.mistake }

-- the findings of a part, as those of what leads to it
abbrev pub behind : Step → List Finding → List Finding
behind s fs = map (moved s) fs

-- the mistake of the part itself, if it is made
abbrev pub here : Mistake → Bool → List Finding
here w b = if b then record { place = []; mistake = w } ∷ [] else []

-- the findings of each element of an array, whose first element has this index
abbrev pub each_from : {X : Type 0} → (X → List Finding) → ℕ → List X → List Finding
each_from f i [] = []
each_from f i (x ∷ xs) = behind (Index i) (f x) ++ each_from f (i + 1) xs

-- the findings of each element of an array
abbrev pub each_of : {X : Type 0} → (X → List Finding) → List X → List Finding
each_of f xs = each_from f 0 xs
