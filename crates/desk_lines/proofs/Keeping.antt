-- A line that is kept is no longer than a line may be.
use Rattle.std.proofs.Common.{◌≡◌, ℕ, ◌<◌, ◌≤◌, List, Bool, true, false, Some, None, refl, nat_le, if◌then◌else◌}
use Rattle.std.proofs.lemmas.Bool.{leb-true, leb-false}

pub kept_by : (b : Bool) (it t : List ℕ) → Some t ≡ (if b then Some it else None) → (t ≡ it) × (b ≡ true)
kept_by true it t h = let same : t ≡ it = cc in (same, refl)
kept_by false it t h = let wrong : ⊥ = cc in absurd wrong

pub lost_by : (b : Bool) (it : List ℕ) → None ≡ (if b then Some it else None) → b ≡ false
lost_by true it h = let wrong : ⊥ = cc in absurd wrong
lost_by false it h = refl

pub le_true : (m n : ℕ) → nat_le m n ≡ true → m ≤ n
le_true m n h = leb-true m n h

pub le_false : (m n : ℕ) → nat_le m n ≡ false → n < m
le_false m n h = leb-false m n h
