-- Which link an end has. A reader needs to know only that it tells ends apart.
use Rattle.std.specs.Prelude.{◌≡◌, ℕ, List, [], ◌∷◌, ◌++◌, map}
use Rattle.std.specs.Coded.{Coded, coded×, coded_ℕ, prop_coded}
use Rattle.std.specs.declared.alloc.Global.{Global}
use Rattle.std.proofs.Common.{refl, ap}
use denote.RawPtr.{Ptr, coded_ptr}
use Rattle.rtrb.specs.declared.consumer.Consumer.{Consumer}
use Rattle.rtrb.specs.declared.producer.Producer.{Producer}
use Rattle.rtrb.specs.declared.AnyItems.{AnyItems}
use Rattle.lanes.specs.Links.{Link}

-- what a deque and a ring are known by
abbrev pub Deque : Type 0
Deque = (ℕ × ℕ) × Global

abbrev pub Ring : Type 0
Ring = Ptr × (Ptr × ((ℕ × (ℕ × ℕ)) × Global))

-- there is one heap
abbrev pub heap_code : Coded Global
heap_code = prop_coded (λ x y. refl)

abbrev pub ends_code : Coded (Deque × Ring)
ends_code =
    coded× (coded× (coded× coded_ℕ coded_ℕ) heap_code) (coded× coded_ptr (coded× coded_ptr (coded× (coded× coded_ℕ (coded× coded_ℕ coded_ℕ)) heap_code)))

-- the link by a lane's deque and one of its rings
pub link : Deque → Ring → Link
link deque ring = record { identity = ends_code.code (deque, ring) }

pub link-inj : (d e : Deque) (r s : Ring) → link d r ≡ link e s → (d ≡ e) × (r ≡ s)
unfolding link
link-inj d e r s same =
    let both : ◌≡◌ {A = Deque × Ring} (d, r) (e, s) = ends_code.inj (d, r) (e, s) (ap (λ (l : Link). l.identity) same) in
    (ap (λ (x : Deque × Ring). x.0) both, ap (λ (x : Deque × Ring). x.1) both)

-- it is a link of this deque
abbrev pub IsOfLane : Deque → Link → Type 0
IsOfLane deque l = (ring : Ring) × (l ≡ link deque ring)

module _ {T : Type 0} where
  -- the ring of a consumer, and of a producer
  abbrev pub ring_of : Consumer T Global AnyItems → Ring
  ring_of r = (r.end.words, (r.end.slots, (r.end.names, r.end.heap)))

  abbrev pub sender_ring : Producer T Global AnyItems → Ring
  sender_ring s = (s.end.words, (s.end.slots, (s.end.names, s.end.heap)))

  abbrev pub ring_links : List (Consumer T Global AnyItems) → List Ring
  ring_links rings = map (λ r. ring_of r) rings

  -- the links of a lane by its rings
  abbrev pub links_of : Deque → List (Consumer T Global AnyItems) → List Link
  links_of deque rings = map (λ ring. link deque ring) (ring_links rings)

  -- each list with the member at its place after it
  abbrev pub add_each : List (List T) → List T → List (List T)
  add_each (column ∷ columns) (x ∷ xs) = (column ++ x ∷ []) ∷ add_each columns xs
  add_each columns xs = columns
