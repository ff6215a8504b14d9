-- The books of one lane, and the rule that its deque keeps.
use Rattle.std.specs.Prelude.{◌≡◌, ◌≢◌, ℕ, zero, suc, ◌+◌, ◌<◌, ◌&&◌, nat_lt, Bool, true, All, List, [], ◌∷◌, ◌++◌, flat_map, sum_by, length, IsPermutation}
use Rattle.std.specs.Coded.{×_prop, Unit-prop}
use Rattle.std.proofs.Props.{props}
use mathlib.Core.Option.{some}
use lib.ListN.{get_elem?}
use Rattle.box_core.specs.Answer.{Ticketed}
use Rattle.lanes.specs.declared.book.Book.{Book}

abbrev pub ticket_of : {W : Type 0} → Ticketed W → ℕ
ticket_of t = t.ticket

abbrev pub work_of : {W : Type 0} → Ticketed W → W
work_of t = t.work

-- the numbers k, k + 1, k + 2, .., n of them
abbrev pub counting : ℕ → ℕ → List ℕ
counting k zero = []
counting k (suc n) = k ∷ counting (suc k) n

-- whether each number is below the next
abbrev pub do_rise : List ℕ → Bool
do_rise [] = true
do_rise (m ∷ []) = true
do_rise (m ∷ (n ∷ ns)) = nat_lt m n && do_rise (n ∷ ns)

module _ {T : Type 0} where
  abbrev pub book : ℕ → ℕ → List T → List T → Book T
  book live out put taken = record { live = live; out = out; put = put; taken = taken }

  -- what the passes took, one pass after the other
  abbrev pub all_taken : List (Book T) → List T
  all_taken views = flat_map (λ v. v.taken) views

  -- how many passes take part
  abbrev pub live_passes : List (Book T) → ℕ
  live_passes views = sum_by (λ v. v.live) views

  -- where no pass is out, what was put is what this pass took
  abbrev pub IsAllTaken : Book T → Type 0
  IsAllTaken v = v.out ≡ 0 → IsPermutation v.put v.taken

  -- one more was taken, and where no pass is out, less was taken before than was put
  abbrev pub LeavesLast : Book T → List T → Book T → Type 0
  LeavesLast v xs w = (w ≡ book v.live v.out v.put (v.taken ++ xs)) × (v.out ≡ 0 → length v.taken < length v.put)

module _ {T : Type 0} (ticket : T → ℕ) where
  -- the tickets are k, k + 1, k + 2, ..
  abbrev pub CountsFrom : ℕ → List T → Type 0
  CountsFrom k [] = Unit {0}
  CountsFrom k (x ∷ xs) = (ticket x ≡ k) × CountsFrom (suc k) xs

  pub CountsFrom-prop : (k : ℕ) (xs : List T) → IsProp (CountsFrom k xs)
  CountsFrom-prop k [] = Unit-prop
  CountsFrom-prop k (x ∷ xs) = ×_prop (Prim.hlevel props) (CountsFrom-prop (suc k) xs)

  -- each ticket is below all those after it
  abbrev pub Rises : List T → Type 0
  Rises [] = Unit {0}
  Rises (x ∷ xs) = All (λ y. ticket x < ticket y) xs × Rises xs

  pub Rises-prop : (xs : List T) → IsProp (Rises xs)
  Rises-prop [] = Unit-prop
  Rises-prop (x ∷ xs) = ×_prop (Prim.hlevel props) (Rises-prop xs)

  -- no two of them have one ticket
  abbrev pub AreApart : List T → Type 0
  AreApart [] = Unit {0}
  AreApart (x ∷ xs) = All (λ y. ticket x ≢ ticket y) xs × AreApart xs

  -- one more was taken, and the tickets still rise
  abbrev pub TakesLast : Book T → List T → Book T → Type 0
  TakesLast v xs w = (w ≡ book v.live v.out v.put (v.taken ++ xs)) × (Rises v.taken → Rises w.taken)

  -- What is known of one pass: each ticket that it took is below `front`, and once it is spent it has none.
  pub record FitsPass (front : ℕ) (v : Book T) : Type 0 where
    pub below : All (λ x. ticket x < front) v.taken
    pub spent : v.live ≡ 0 → v.taken ≡ []

  -- What the owner put is a permutation of what waits and of all that was taken.
  -- What waits has the tickets from `front` up to the number that was put, in order, and what was taken has tickets below.
  pub record Carries (items : List T) (owner : Book T) (others : List (Book T)) : Type 0 where
    pub permutation : IsPermutation owner.put (items ++ all_taken (owner ∷ others))
    pub front : ℕ
    pub waits : CountsFrom front items
    pub count : front + length items ≡ length owner.put
    pub fits : (port : ℕ) (v : Book T) → get_elem? (owner ∷ others) port ≡ some v → FitsPass front v
    pub owns : owner.live ≡ 1
    pub passes : live_passes others ≡ owner.out

  -- The rule of a lane's deque. The first pass is the owner's.
  abbrev pub IsCarried : List T → List (Book T) → Type 0
  IsCarried items [] = ⊥
  IsCarried items (owner ∷ others) = Carries items owner others
