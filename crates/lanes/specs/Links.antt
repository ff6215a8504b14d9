-- Which end of which call of `lanes` an end is.
use Rattle.std.specs.Prelude.{◌≡◌, ℕ, zero, suc, All, List, [], ◌∷◌, length}
use base.Stored.{Gv}

-- What one client's end and one worker's end of a lane have in common. Two links can be compared, and a link tells nothing else.
pub record Link : Type 0 where
  pub identity : Gv

module _ {T : Type 0} where
  -- n lists without a member
  abbrev pub empties : ℕ → List (List T)
  empties zero = []
  empties (suc n) = [] ∷ empties n

  -- each member before the list at its place
  abbrev pub before_each : List T → List (List T) → List (List T)
  before_each (x ∷ xs) (column ∷ columns) = (x ∷ column) ∷ before_each xs columns
  before_each xs columns = []

  -- n columns, the k-th of which has the k-th member of each row, in order
  abbrev pub transposed : ℕ → List (List T) → List (List T)
  transposed n [] = empties n
  transposed n (row ∷ rows) = before_each row (transposed n rows)

-- The ends of one call, by their links: the k-th worker has the k-th link of each client, in the clients' order.
pub record AreOfOneCall (clients workers : List (List Link)) : Type 0 where
  pub wide : All (λ links. length links ≡ length workers) clients
  pub meet : workers ≡ transposed (length workers) clients
