-- The steps of a search for an order.
use Rattle.std.proofs.Common.{replicate, ◌≡◌, ◌⊎◌, inl, inr, ℕ, zero, suc, ◌+◌, ◌<◌, List, [], ◌∷◌, ◌++◌, refl, sym, ◌∙◌, ap, subst, length, drop, arith, length-set, get_or-set_same, get_or-set_other, get_or, reverse}
use Rattle.std.specs.Prelude.{nat_eq, slice_set, Vec, All}
use Rattle.std.specs.declared.alloc.Global.{Global}
use Rattle.std.proofs.lemmas.Bool.{cases_lt}
use Rattle.std.proofs.lemmas.Bool.Decides.{Decides-eqb}
use Rattle.std.proofs.lemmas.List.{get_or_past, reverse-append, length-map, length-replicate, get_or-replicate}
use Rattle.std.proofs.lemmas.List.Elements.{All-head, All-tail}
use Rattle.dmn_graph.specs.declared.search.Mark.{Mark}
use Rattle.dmn_graph.specs.declared.search.Mark.TheVariants.{Untouched, Open, Done}
use Rattle.dmn_graph.specs.declared.search.Visit.{Visit}
use Rattle.dmn_graph.specs.declared.search.Search.{Search}
use Rattle.dmn_graph.specs.Reach.{IsDistinct, reached}
use Rattle.dmn_graph.specs.Needs.{needs_view, needs_of, AreNeedsBelow, HasCycle, HasNoCycle, IsOrderOf}
use Rattle.dmn_graph.specs.Members.{IsIn}
use Rattle.dmn_graph.specs.SearchState.{mark_at, places, ahead, passed, IsTrail, IsTrailBelow, IsSearch, cost_of, cost_ahead, KeepsTouched, IsNextNeed, IsStepped}
use Rattle.dmn_graph.proofs.Members.{in_left, in_right, in_either, is_in, among, among_not, not_in, equal_or_not}
use Rattle.dmn_graph.proofs.Reaching.{reached_step, reached_from_one}
use Rattle.dmn_graph.proofs.Cycles.{cycle_found}
use Rattle.dmn_graph.proofs.Orders.{distinct_push, in_order_push, in_order_not_itself}

abbrev pub same_place : (a b : ℕ) → (a ≡ b) ⊎ (a ≡ b → ⊥)
same_place = equal_or_not nat_eq Decides-eqb

-- ---- marks

pub mark_set : (marks : List Mark) (q : ℕ) (m : Mark) → q < length marks → mark_at (slice_set marks q m) q ≡ m
mark_set marks q m l = get_or-set_same marks q m Untouched l

pub mark_kept : (marks : List Mark) (q p : ℕ) (m : Mark) → (p ≡ q → ⊥) → mark_at (slice_set marks q m) p ≡ mark_at marks p
mark_kept marks q p m n = get_or-set_other marks q p m Untouched n

pub marked_within : (marks : List Mark) (q : ℕ) → (mark_at marks q ≡ Untouched → ⊥) → q < length marks
marked_within marks q n = elim (cases_lt q (length marks)) [ inl l ↦ l | inr g ↦ absurd (n (get_or_past marks q Untouched g)) ]

-- ---- trails

trail_below_more : (next : ℕ → List ℕ) (order more : List ℕ) (above : ℕ) (vs : List Visit) → IsTrailBelow next order above vs → IsTrailBelow next (order ++ more) above vs
trail_below_more next order more above [] h = tt
trail_below_more next order more above (v ∷ vs) h = (
  h.0,
  (λ q i. elim (h.1 q i) [ inl e ↦ inl e | inr k ↦ inr (elim k [ inl j ↦ inl (in_left q order more j) | inr j ↦ inr j ]) ]),
  trail_below_more next order more v.place vs h.2,
)

-- the newest place is done
pub trail_closed : (next : ℕ → List ℕ) (order : List ℕ) (v : Visit) (vs : List Visit) → IsTrail next order (v ∷ vs) → IsTrail next (order ++ v.place ∷ []) vs
trail_closed next order v [] h = tt
trail_closed next order v (w ∷ ws) h = (
  (λ q i. elim (h.1.1 q i) [
    | inl e ↦ inl (in_right q order (v.place ∷ []) (inl e))
    | inr k ↦ elim k [ inl j ↦ inl (in_left q order (v.place ∷ []) j) | inr j ↦ inr j ]
  ]),
  trail_below_more next order (v.place ∷ []) w.place ws h.1.2,
)

abbrev pub begun : ℕ → Visit
begun q = record { place = q; looked_at = 0 }

-- a need that is done is passed
pub trail_passed : (next : ℕ → List ℕ) (order : List ℕ) (v : Visit) (vs : List Visit) (q : ℕ) → ahead next v ≡ q ∷ ahead next (passed v) → IsIn q order
    → IsTrail next order (v ∷ vs) → IsTrail next order (passed v ∷ vs)
trail_passed next order v vs q e done h = (
  (λ p i. elim (h.0 p i) [
    | inl j ↦ inl j
    | inr j ↦ (let k : IsIn p (q ∷ ahead next (passed v)) = subst (λ xs. IsIn p xs) e j in
        elim k [ inl s ↦ inl (subst (λ w. IsIn w order) (sym s) done) | inr r ↦ inr r ])
  ]),
  h.1,
)

-- a need is looked at
pub trail_opened : (next : ℕ → List ℕ) (order : List ℕ) (v : Visit) (vs : List Visit) (q : ℕ) → ahead next v ≡ q ∷ ahead next (passed v) → IsIn q (next v.place)
    → IsTrail next order (v ∷ vs) → IsTrail next order (begun q ∷ (passed v ∷ vs))
trail_opened next order v vs q e needed h = (
  (λ p i. inr i),
  (
    needed,
    (λ p i. elim (h.0 p i) [
      | inl j ↦ inr (inl j)
      | inr j ↦ (let k : IsIn p (q ∷ ahead next (passed v)) = subst (λ xs. IsIn p xs) e j in
          elim k [ inl s ↦ inl s | inr r ↦ inr (inr r) ])
    ]),
    h.1,
  ),
)

pub trail_begun : (next : ℕ → List ℕ) (order : List ℕ) (q : ℕ) → IsTrail next order (begun q ∷ [])
trail_begun next order q = ((λ p i. inr i), tt)

-- ---- the whole state

module _ (needs : List (List ℕ)) where
  pub search_opened : (marks : List Mark) (trail : List Visit) (order : List ℕ) (q : ℕ) → IsSearch needs marks trail order → mark_at marks q ≡ Untouched → q < length needs
      → (trail' : List Visit) → places trail' ≡ places trail → IsTrail (needs_of needs) order (begun q ∷ trail') → IsSearch needs (slice_set marks q Open) (begun q ∷ trail') order
  search_opened marks trail order q s u l trail' same sound = record {
    sized = length-set marks q Open ∙ s.sized;
    open_on_trail = λ p o. elim (same_place p q) [
      | inl e ↦ inl e
      | inr n ↦ inr (subst (λ xs. IsIn p xs) (sym same) (s.open_on_trail p (sym (mark_kept marks q p Open n) ∙ o)))
    ];
    trail_open = λ p i. elim i [
      | inl e ↦ subst (λ w. mark_at (slice_set marks q Open) w ≡ Open) (sym e) (mark_set marks q Open inside)
      | inr k ↦ other p Open (s.trail_open p (subst (λ xs. IsIn p xs) same k)) (λ e. cc)
    ];
    done_in_order = λ p d. elim (same_place p q) [
      | inl e ↦ (let o : mark_at (slice_set marks q Open) p ≡ Open = subst (λ w. mark_at (slice_set marks q Open) w ≡ Open) (sym e) (mark_set marks q Open inside) in absurd (cc))
      | inr n ↦ s.done_in_order p (sym (mark_kept marks q p Open n) ∙ d)
    ];
    order_done = λ p i. other p Done (s.order_done p i) (λ e. cc);
    trail_once = (
      among_not nat_eq Decides-eqb q (places trail') (λ i. let o : mark_at marks q ≡ Open = s.trail_open q (subst (λ xs. IsIn q xs) same i) in cc),
      subst (λ xs. IsDistinct nat_eq xs) (sym same) s.trail_once,
    );
    order_once = s.order_once;
    trail_sound = sound;
    in_order = s.in_order;
  }
    where
      inside : q < length marks
      inside = let e = s.sized in omega arith

      other : (p : ℕ) (m : Mark) → mark_at marks p ≡ m → (m ≡ Untouched → ⊥) → mark_at (slice_set marks q Open) p ≡ m
      other p m e n = mark_kept marks q p Open (λ h. n (sym e ∙ (ap (λ w. mark_at marks w) h ∙ u))) ∙ e

  pub search_passed : (marks : List Mark) (v : Visit) (vs : List Visit) (order : List ℕ) → IsSearch needs marks (v ∷ vs) order
      → IsTrail (needs_of needs) order (passed v ∷ vs) → IsSearch needs marks (passed v ∷ vs) order
  search_passed marks v vs order s sound = record {
    sized = s.sized;
    open_on_trail = s.open_on_trail;
    trail_open = s.trail_open;
    done_in_order = s.done_in_order;
    order_done = s.order_done;
    trail_once = s.trail_once;
    order_once = s.order_once;
    trail_sound = sound;
    in_order = s.in_order;
  }

  pub search_closed : (marks : List Mark) (v : Visit) (vs : List Visit) (order : List ℕ) → IsSearch needs marks (v ∷ vs) order
      → ahead (needs_of needs) v ≡ [] → IsSearch needs (slice_set marks v.place Done) vs (order ++ v.place ∷ [])
  search_closed marks v vs order s none = record {
    sized = length-set marks v.place Done ∙ s.sized;
    open_on_trail = λ p o. elim (same_place p v.place) [
      | inl e ↦ (let d : mark_at (slice_set marks v.place Done) p ≡ Done = at_place p e in absurd (cc))
      | inr n ↦ elim (s.open_on_trail p (sym (mark_kept marks v.place p Done n) ∙ o)) [ inl e ↦ absurd (n e) | inr k ↦ k ]
    ];
    trail_open = λ p i. mark_kept marks v.place p Done (λ e. not_in nat_eq Decides-eqb v.place (places vs) s.trail_once.0 (subst (λ w. IsIn w (places vs)) e i)) ∙ s.trail_open p (inr i);
    done_in_order = λ p d. elim (same_place p v.place) [
      | inl e ↦ in_right p order (v.place ∷ []) (inl e)
      | inr n ↦ in_left p order (v.place ∷ []) (s.done_in_order p (sym (mark_kept marks v.place p Done n) ∙ d))
    ];
    order_done = λ p i. elim (in_either p order (v.place ∷ []) i) [
      | inl k ↦ mark_kept marks v.place p Done (λ e. fresh (subst (λ w. IsIn w order) e k)) ∙ s.order_done p k
      | inr k ↦ elim k [ inl e ↦ at_place p e | inr q ↦ absurd q ]
    ];
    trail_once = s.trail_once.1;
    order_once = distinct_push nat_eq Decides-eqb order v.place s.order_once fresh;
    trail_sound = trail_closed (needs_of needs) order v vs s.trail_sound;
    in_order = in_order_push nat_eq Decides-eqb (needs_of needs) [] order v.place s.in_order (λ q i. elim (s.trail_sound.0 q i) [
      | inl k ↦ inr k
      | inr k ↦ inl (subst (λ xs. IsIn q xs) none k)
    ]);
  }
    where
      at_place : (p : ℕ) → p ≡ v.place → mark_at (slice_set marks v.place Done) p ≡ Done
      at_place p e = subst (λ w. mark_at (slice_set marks v.place Done) w ≡ Done) (sym e) (mark_set marks v.place Done (marked_within marks v.place (λ u. let o : mark_at marks v.place ≡ Open = s.trail_open v.place (inl refl) in cc)))

      fresh : IsIn v.place order → ⊥
      fresh i = let d : mark_at marks v.place ≡ Done = s.order_done v.place i in let o : mark_at marks v.place ≡ Open = s.trail_open v.place (inl refl) in cc

-- ---- cycles

-- each place of the trail leads to the place above it
trail_leads : (next : ℕ → List ℕ) (order : List ℕ) (above : ℕ) (vs : List Visit) → IsTrailBelow next order above vs → (q : ℕ) → IsIn q (places vs)
    → (m : ℕ) × IsIn above (reached m next (next q))
trail_leads next order above [] h q i = absurd i
trail_leads next order above (v ∷ vs) h q (inl e) = (0, subst (λ w. IsIn above (next w)) (sym e) h.0)
trail_leads next order above (v ∷ vs) h q (inr i) =
    let w = trail_leads next order v.place vs h.2 q i in (suc w.0, reached_step next w.0 (next q) v.place above w.1 h.0)

-- a need that is being looked at needs itself
pub search_cycle : (needs : List (List ℕ)) (marks : List Mark) (v : Visit) (vs : List Visit) (order : List ℕ) (q : ℕ) → IsSearch needs marks (v ∷ vs) order
    → IsIn q (needs_of needs v.place) → q < length needs → mark_at marks q ≡ Open → HasCycle needs
search_cycle needs marks v vs order q s needed l o =
    elim (s.open_on_trail q o) [
      | inl e ↦ cycle_found needs q 0 l (subst (λ w. IsIn q (needs_of needs w)) (sym e) needed)
      | inr i ↦ (let w = trail_leads (needs_of needs) order v.place vs s.trail_sound.1 q i in
          cycle_found needs q (suc w.0) l (reached_step (needs_of needs) w.0 (needs_of needs q) v.place q w.1 needed))
    ]

-- ---- the steps that are left

pub cost_set : (needs : List (List ℕ)) (marks : List Mark) (q : ℕ) (m : Mark) → length marks ≡ length needs → q < length marks
    → cost_ahead needs marks + cost_of m (needs_of needs q) ≡ cost_ahead needs (slice_set marks q m) + cost_of (mark_at marks q) (needs_of needs q)
cost_set [] [] q m e l = absurd (omega arith)
cost_set [] (x ∷ xs) q m e l = absurd (omega arith)
cost_set (ns ∷ needs) [] q m e l = absurd (omega arith)
cost_set (ns ∷ needs) (x ∷ xs) zero m e l = omega arith
cost_set (ns ∷ needs) (x ∷ xs) (suc q) m e l = omega (arith, cost_set needs xs q m (omega arith) (omega arith))

-- ---- what the code reads

pub needs_at : (needs : List (Vec ℕ Global)) (x : ℕ) (d : Vec ℕ Global) → x < length needs → needs_of (needs_view needs) x ≡ (get_or needs x d).items
needs_at [] x d l = absurd (omega arith)
needs_at (v ∷ vs) zero d l = refl
needs_at (v ∷ vs) (suc x) d l = needs_at vs x d (omega arith)

in_drop : (i : ℕ) (xs : List ℕ) (q : ℕ) → IsIn q (drop i xs) → IsIn q xs
in_drop zero xs q h = h
in_drop (suc i) [] q h = h
in_drop (suc i) (x ∷ xs) q h = inr (in_drop i xs q h)

pub all_in : (P : ℕ → Type 0) (xs : List ℕ) (x : ℕ) → All P xs → IsIn x xs → P x
all_in P [] x a h = absurd h
all_in P (y ∷ ys) x a (inl e) = subst P (sym e) (All-head P y ys a)
all_in P (y ∷ ys) x a (inr h) = all_in P ys x (All-tail P y ys a) h

pub needed_below : (n : ℕ) (needs : List (List ℕ)) → AreNeedsBelow n needs → (x q : ℕ) → IsIn q (needs_of needs x) → q < n
needed_below n [] a x q h = absurd h
needed_below n (ns ∷ needs) a zero q h = all_in (λ z. z < n) ns q (All-head (All (λ z. z < n)) ns needs a) h
needed_below n (ns ∷ needs) a (suc x) q h = needed_below n needs (All-tail (All (λ z. z < n)) ns needs a) x q h

pub next_needed : (next : ℕ → List ℕ) (v : Visit) (q : ℕ) (later : Visit) → IsNextNeed next v q later → IsIn q (next v.place)
next_needed next v q later h = in_drop v.looked_at (next v.place) q (subst (λ xs. IsIn q xs) (sym h.1) (inl refl))

pub reverse_push : (xs : List Visit) (v : Visit) → reverse (xs ++ v ∷ []) ≡ v ∷ reverse xs
reverse_push xs v = reverse-append xs (v ∷ [])

-- a visited place is a place
pub visited_within : (needs : List (List ℕ)) (marks : List Mark) (v : Visit) (vs : List Visit) (order : List ℕ) → IsSearch needs marks (v ∷ vs) order → v.place < length marks
visited_within needs marks v vs order s = marked_within marks v.place (λ u. let o : mark_at marks v.place ≡ Open = s.trail_open v.place (inl refl) in cc)

touched_set : (marks : List Mark) (q : ℕ) (m : Mark) → q < length marks → (m ≡ Untouched → ⊥) → KeepsTouched marks (slice_set marks q m)
touched_set marks q m l n p u = elim (same_place p q) [
  | inl e ↦ absurd (n (sym (mark_set marks q m l) ∙ subst (λ w. mark_at (slice_set marks q m) w ≡ Untouched) e u))
  | inr d ↦ sym (mark_kept marks q p m d) ∙ u
]

module _ (needs : List (List ℕ)) (old : Search) (v : Visit) (new : Search) (s : IsSearch needs old.marks.items (v ∷ reverse old.trail.items) old.order.items) where
  pub stepped_closed : ahead (needs_of needs) v ≡ [] → new.marks.items ≡ slice_set old.marks.items v.place Done → new.trail.items ≡ old.trail.items
      → new.order.items ≡ old.order.items ++ v.place ∷ [] → IsStepped needs old v new
  stepped_closed none marks trail order =
      let inside : v.place < length old.marks.items = visited_within needs old.marks.items v (reverse old.trail.items) old.order.items s in
      let cost : cost_ahead needs old.marks.items + cost_of Done (needs_of needs v.place)
      ≡ cost_ahead needs (slice_set old.marks.items v.place Done) + cost_of (mark_at old.marks.items v.place) (needs_of needs v.place)
      = cost_set needs old.marks.items v.place Done s.sized inside in
      let opened : mark_at old.marks.items v.place ≡ Open = s.trail_open v.place (inl refl) in
      let cost' = rw opened at cost in
      record {
        state = rw (marks, trail, order) (search_closed needs old.marks.items v (reverse old.trail.items) old.order.items s none);
        fewer = rw (marks, trail) (omega arith);
        touched = rw marks (touched_set old.marks.items v.place Done inside (λ e. cc));
      }

  pub stepped_passed : (q : ℕ) (later : Visit) → IsNextNeed (needs_of needs) v q later → mark_at old.marks.items q ≡ Done
      → new.marks.items ≡ old.marks.items → new.trail.items ≡ old.trail.items ++ later ∷ [] → new.order.items ≡ old.order.items → IsStepped needs old v new
  stepped_passed q later need done marks trail order =
      let trail' : reverse new.trail.items ≡ passed v ∷ reverse old.trail.items
      = ap reverse trail ∙ (reverse_push old.trail.items later ∙ ap (λ w. w ∷ reverse old.trail.items) need.0) in
      let shorter : length (ahead (needs_of needs) v) ≡ suc (length (ahead (needs_of needs) (passed v))) = ap length need.1 in
      record {
        state = rw (marks, trail', order) (search_passed needs old.marks.items v (reverse old.trail.items) old.order.items s
            (trail_passed (needs_of needs) old.order.items v (reverse old.trail.items) q need.1 (s.done_in_order q done) s.trail_sound));
        fewer = rw (marks, trail') (omega arith);
        touched = rw marks (λ p u. u);
      }

  pub stepped_opened : (q : ℕ) (later : Visit) → IsNextNeed (needs_of needs) v q later → mark_at old.marks.items q ≡ Untouched → q < length needs
      → new.marks.items ≡ slice_set old.marks.items q Open → new.trail.items ≡ (old.trail.items ++ later ∷ []) ++ begun q ∷ [] → new.order.items ≡ old.order.items → IsStepped needs old v new
  stepped_opened q later need untouched inside marks trail order =
      let trail' : reverse new.trail.items ≡ begun q ∷ (passed v ∷ reverse old.trail.items)
      = ap reverse trail ∙ (reverse_push (old.trail.items ++ later ∷ []) (begun q) ∙ ap (λ w. begun q ∷ w) (reverse_push old.trail.items later ∙ ap (λ w. w ∷ reverse old.trail.items) need.0)) in
      let shorter : length (ahead (needs_of needs) v) ≡ suc (length (ahead (needs_of needs) (passed v))) = ap length need.1 in
      let within : q < length old.marks.items = let e = s.sized in omega arith in
      let cost : cost_ahead needs old.marks.items + cost_of Open (needs_of needs q)
      ≡ cost_ahead needs (slice_set old.marks.items q Open) + cost_of (mark_at old.marks.items q) (needs_of needs q)
      = cost_set needs old.marks.items q Open s.sized within in
      let cost' = rw untouched at cost in
      record {
        state = rw (marks, trail', order) (search_opened needs old.marks.items (v ∷ reverse old.trail.items) old.order.items q s untouched inside (passed v ∷ reverse old.trail.items) refl
            (trail_opened (needs_of needs) old.order.items v (reverse old.trail.items) q need.1 (next_needed (needs_of needs) v q later need) s.trail_sound));
        fewer = rw (marks, trail') (omega arith);
        touched = rw marks (touched_set old.marks.items q Open within (λ e. cc));
      }

any_default : (marks : List Mark) (q : ℕ) (d e : Mark) → q < length marks → get_or marks q d ≡ get_or marks q e
any_default [] q d e l = absurd (omega arith)
any_default (m ∷ ms) zero d e l = refl
any_default (m ∷ ms) (suc q) d e l = any_default ms q d e (omega arith)

pub mark_read : (marks : List Mark) (q : ℕ) (x m : Mark) → q < length marks → x ≡ get_or marks q x → x ≡ m → mark_at marks q ≡ m
mark_read marks q x m l read e = any_default marks q Untouched x l ∙ (sym read ∙ e)

-- a next need is a place
pub need_within : (needs : List (Vec ℕ Global)) (marks : List Mark) (vs : List Visit) (order : List ℕ) (v : Visit) (q : ℕ) (later : Visit)
    → AreNeedsBelow (length needs) (needs_view needs) → IsSearch (needs_view needs) marks vs order → IsNextNeed (needs_of (needs_view needs)) v q later
    → (q < length marks) × (q < length (needs_view needs))
need_within needs marks vs order v q later inside s need =
    let below = needed_below (length needs) (needs_view needs) inside v.place q (next_needed (needs_of (needs_view needs)) v q later need) in
    let sized = s.sized in
    (omega (arith, length-map needs (λ w. w.items)), omega (arith, length-map needs (λ w. w.items)))

-- ---- the begin and the end

at_untouched : (n q : ℕ) → mark_at (replicate n Untouched) q ≡ Untouched
at_untouched n q = elim (cases_lt q n) [ inl l ↦ get_or-replicate n q Untouched Untouched l | inr g ↦ get_or_past (replicate n Untouched) q Untouched (omega (arith, length-replicate n Untouched)) ]

pub search_begun : (needs : List (Vec ℕ Global)) → IsSearch (needs_view needs) (replicate (length needs) Untouched) [] []
search_begun needs = record {
  sized = length-replicate (length needs) Untouched ∙ sym (length-map needs (λ v. v.items));
  open_on_trail = λ q e. let u : mark_at (replicate (length needs) Untouched) q ≡ Untouched = at_untouched (length needs) q in absurd (cc);
  trail_open = λ q i. absurd i;
  done_in_order = λ q e. let u : mark_at (replicate (length needs) Untouched) q ≡ Untouched = at_untouched (length needs) q in absurd (cc);
  order_done = λ q i. absurd i;
  trail_once = tt;
  order_once = tt;
  trail_sound = tt;
  in_order = tt;
}

pub needs_past : (needs : List (List ℕ)) (x y : ℕ) → IsIn y (needs_of needs x) → x < length needs
needs_past needs x y i = elim (cases_lt x (length needs)) [ inl l ↦ l | inr g ↦ absurd (subst (λ xs. IsIn y xs) (get_or_past needs x [] g) i) ]

module _ (needs : List (List ℕ)) (marks : List Mark) (order : List ℕ) (s : IsSearch needs marks [] order) (all : (q : ℕ) → q < length needs → mark_at marks q ≡ Untouched → ⊥) where
  all_done : (x : ℕ) → x < length needs → IsIn x order
  all_done x l = go (mark_at marks x) refl
    where
      go : (m : Mark) → mark_at marks x ≡ m → IsIn x order
      go Untouched e = absurd (all x l e)
      go Open e = absurd (s.open_on_trail x e)
      go Done e = s.done_in_order x e

  pub search_ended : IsOrderOf needs order
  search_ended = record {
    behind = s.in_order;
    once = s.order_once;
    every = λ x l. among nat_eq Decides-eqb x order (all_done x l);
    only = λ x t. let d = s.order_done x (is_in nat_eq Decides-eqb x order t) in let l = marked_within marks x (λ u. cc) in let e = s.sized in omega arith;
  }

  pub search_ended_sound : HasNoCycle needs
  search_ended_sound steps x = among_not nat_eq Decides-eqb x (reached steps (needs_of needs) (needs_of needs x)) (λ h.
      let w = reached_from_one (needs_of needs) steps (needs_of needs x) x h in
      in_order_not_itself nat_eq Decides-eqb (needs_of needs) [] order (λ a b i j. i) (λ a i j. j) s.order_once s.in_order x
      (all_done x (needs_past needs x w.0 w.1)) steps h)
