-- What a list leads to where each thing names others, over anything whose equality a test decides.
use Rattle.std.specs.Prelude.{◌≡◌, ℕ, zero, suc, List, [], ◌∷◌, ◌++◌, Bool, true, false, ⊤}
use Rattle.std.specs.List.{list_any, flat_map}

-- x stands in the list
abbrev pub has_same : {X : Type 0} → (X → X → Bool) → List X → X → Bool
has_same same xs x = list_any (same x) xs

-- these, and those that they lead to in up to this many steps
abbrev pub reached : {X : Type 0} → ℕ → (X → List X) → List X → List X
reached zero next xs = xs
reached (suc steps) next xs = xs ++ reached steps next (flat_map next xs)

-- a leads to b: it names b, or names another that leads to b
pub data Leads {X : Type 0} (same : X → X → Bool) (next : X → List X) : X → X → Type 0 where
  directly : {a b : X} → has_same same (next a) b ≡ true → Leads same next a b
  through : {a b c : X} → has_same same (next a) b ≡ true → Leads same next b c → Leads same next a c

abbrev pub Each : {X : Type 0} → (X → Type 0) → List X → Type 0
Each P [] = ⊤
Each P (x ∷ xs) = P x × Each P xs

-- each of these stands behind all that it names, beside what was there before
abbrev pub IsInOrder : {X : Type 0} → (X → X → Bool) → (X → List X) → List X → List X → Type 0
IsInOrder same next seen [] = ⊤
IsInOrder same next seen (k ∷ ks) = Each (λ q. has_same same seen q ≡ true) (next k) × IsInOrder same next (k ∷ seen) ks

-- no two of these are the same
abbrev pub IsDistinct : {X : Type 0} → (X → X → Bool) → List X → Type 0
IsDistinct same [] = ⊤
IsDistinct same (x ∷ xs) = (has_same same xs x ≡ false) × IsDistinct same xs
