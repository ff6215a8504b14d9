-- Internal: what a search for an order of places keeps.
use Rattle.std.specs.Prelude.{◌≡◌, ◌⊎◌, ℕ, suc, ◌+◌, ◌<◌, List, [], ◌∷◌, length, ⊤, drop, nat_eq, slice_index_or, reverse}
use Rattle.dmn_graph.specs.declared.search.Mark.{Mark}
use Rattle.dmn_graph.specs.declared.search.Mark.TheVariants.{Untouched, Open, Done}
use Rattle.dmn_graph.specs.declared.search.Visit.{Visit}
use Rattle.dmn_graph.specs.declared.search.Search.{Search}
use Rattle.dmn_graph.specs.Reach.{IsInOrder, IsDistinct}
use Rattle.dmn_graph.specs.Needs.{needs_of}
use Rattle.dmn_graph.specs.Members.{IsIn}

abbrev pub mark_at : List Mark → ℕ → Mark
mark_at marks q = slice_index_or marks q Untouched

abbrev pub places : List Visit → List ℕ
places [] = []
places (v ∷ vs) = v.place ∷ places vs

-- what a visited place needs and was not looked at yet
abbrev pub ahead : (ℕ → List ℕ) → Visit → List ℕ
ahead next v = drop v.looked_at (next v.place)

-- the visit once one more need was looked at
abbrev pub passed : Visit → Visit
passed v = record { place = v.place; looked_at = v.looked_at + 1 }

-- the next need to look at, and the visit after it
abbrev pub IsNextNeed : (ℕ → List ℕ) → Visit → ℕ → Visit → Type 0
IsNextNeed next v q later = (later ≡ passed v) × (ahead next v ≡ q ∷ ahead next (passed v))

-- below a place that is looked at stand, newest first, a place that needs it, and so on; all other needs that were looked at stand in the order
abbrev pub IsTrailBelow : (ℕ → List ℕ) → List ℕ → ℕ → List Visit → Type 0
IsTrailBelow next order above [] = ⊤
IsTrailBelow next order above (v ∷ vs) =
    IsIn above (next v.place)
    × ((q : ℕ) → IsIn q (next v.place) → (q ≡ above) ⊎ (IsIn q order ⊎ IsIn q (ahead next v)))
    × IsTrailBelow next order v.place vs

-- the visits, newest first
abbrev pub IsTrail : (ℕ → List ℕ) → List ℕ → List Visit → Type 0
IsTrail next order [] = ⊤
IsTrail next order (v ∷ vs) = ((q : ℕ) → IsIn q (next v.place) → IsIn q order ⊎ IsIn q (ahead next v)) × IsTrailBelow next order v.place vs

pub record IsSearch (needs : List (List ℕ)) (marks : List Mark) (trail : List Visit) (order : List ℕ) : Type 0 where
  pub sized : length marks ≡ length needs
  pub open_on_trail : (q : ℕ) → mark_at marks q ≡ Open → IsIn q (places trail)
  pub trail_open : (q : ℕ) → IsIn q (places trail) → mark_at marks q ≡ Open
  pub done_in_order : (q : ℕ) → mark_at marks q ≡ Done → IsIn q order
  pub order_done : (q : ℕ) → IsIn q order → mark_at marks q ≡ Done
  pub trail_once : IsDistinct nat_eq (places trail)
  pub order_once : IsDistinct nat_eq order
  pub trail_sound : IsTrail (needs_of needs) order trail
  pub in_order : IsInOrder nat_eq (needs_of needs) [] order

-- what it costs to look at an untouched place
abbrev pub cost_of : Mark → List ℕ → ℕ
cost_of Untouched ns = length ns + 2
cost_of Open ns = 0
cost_of Done ns = 0

abbrev pub cost_ahead : List (List ℕ) → List Mark → ℕ
cost_ahead [] marks = 0
cost_ahead (ns ∷ needs) [] = 0
cost_ahead (ns ∷ needs) (m ∷ marks) = cost_of m ns + cost_ahead needs marks

abbrev pub trail_cost : (ℕ → List ℕ) → List Visit → ℕ
trail_cost next [] = 0
trail_cost next (v ∷ vs) = suc (length (ahead next v)) + trail_cost next vs

-- how many steps are left at most
abbrev pub steps_left : List (List ℕ) → List Mark → List Visit → ℕ
steps_left needs marks trail = cost_ahead needs marks + trail_cost (needs_of needs) trail

-- no touched place becomes untouched
abbrev pub KeepsTouched : List Mark → List Mark → Type 0
KeepsTouched old new = (q : ℕ) → mark_at new q ≡ Untouched → mark_at old q ≡ Untouched

abbrev pub IsSearchOf : List (List ℕ) → Search → Type 0
IsSearchOf needs s = IsSearch needs s.marks.items (reverse s.trail.items) s.order.items

-- a step was made from a visit that was taken off the trail
pub record IsStepped (needs : List (List ℕ)) (old : Search) (v : Visit) (new : Search) : Type 0 where
  pub state : IsSearchOf needs new
  pub fewer : steps_left needs new.marks.items (reverse new.trail.items) < steps_left needs old.marks.items (v ∷ reverse old.trail.items)
  pub touched : KeepsTouched old.marks.items new.marks.items

-- the trail was followed to its end
pub record IsFollowed (needs : List (List ℕ)) (old new : Search) : Type 0 where
  pub state : IsSearchOf needs new
  pub rest : new.trail.items ≡ []
  pub touched : KeepsTouched old.marks.items new.marks.items

-- a place was looked at, with all that it leads to
pub record IsLookedAt (needs : List (List ℕ)) (old : Search) (place : ℕ) (new : Search) : Type 0 where
  pub state : IsSearchOf needs new
  pub rest : new.trail.items ≡ []
  pub touched : KeepsTouched old.marks.items new.marks.items
  pub here : mark_at new.marks.items place ≡ Untouched → ⊥
