-- An order of names: the shorter one comes first, and of equally long ones the one whose bytes do.
use Rattle.std.specs.Prelude.{◌≡◌, ◌<◌, ◌≤◌, ◌+◌, ℕ, List, [], length, true, slice_index_or, All, Contains}
use Rattle.std.specs.declared.cmp.Ordering.{Ordering}
use Rattle.std.specs.Ordering.{is_lt, nat_cmp, ordering_then}
use Rattle.std.specs.Cmp.Lexicographic.{slice_cmp}

abbrev pub name_cmp : List ℕ → List ℕ → Ordering
name_cmp a b = ordering_then (nat_cmp (length a) (length b)) (slice_cmp nat_cmp a b)

abbrev pub IsBefore : List ℕ → List ℕ → Type 0
IsBefore a b = is_lt (name_cmp a b) ≡ true

-- Names with the position that each rank has in their order. `IsRising` and `AreAll` are internal.

-- the position that has this rank; the rank itself, where the order has none for it
abbrev pub ranked : List ℕ → ℕ → ℕ
ranked order rank = slice_index_or order rank rank

-- the name that has this rank
abbrev pub name_ranked : List (List ℕ) → List ℕ → ℕ → List ℕ
name_ranked names order rank = slice_index_or names (ranked order rank) []

-- the name stands at this position
abbrev pub IsNameAt : List (List ℕ) → List ℕ → ℕ → Type 0
IsNameAt names name i = (i < length names) × (slice_index_or names i [] ≡ name)

-- each name comes behind the one before it
abbrev pub IsRising : List (List ℕ) → List ℕ → Type 0
IsRising names order = (rank : ℕ) → rank + 1 < length names → IsBefore (name_ranked names order rank) (name_ranked names order (rank + 1))

-- all positions below a count, each once
pub record AreAll (count : ℕ) (positions : List ℕ) : Type 0 where
  pub size : length positions ≡ count
  pub within : All (λ p. p < count) positions
  pub whole : (p : ℕ) → p < count → Contains positions p

-- Each position has a rank, and the names rise with the ranks. So no name stands twice.
pub record IsInOrder (names : List (List ℕ)) (order : List ℕ) : Type 0 where
  pub short : length order ≤ length names
  pub within : (rank : ℕ) → rank < length names → ranked order rank < length names
  pub rising : (rank later : ℕ) → rank < later → later < length names → IsBefore (name_ranked names order rank) (name_ranked names order later)
  pub whole : (i : ℕ) → i < length names → (rank : ℕ) × (rank < length names) × (ranked order rank ≡ i)
